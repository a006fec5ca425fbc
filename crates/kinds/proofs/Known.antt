-- A number that names a kind is the kind's own name, so a name has one kind.
-- Assumes nothing.
use Prim.Native.Nat.{ℕ}
use mathlib.Core.Bool.{Bool, true, false}
use mathlib.Core.Path.{◌≡◌, refl, sym, ◌∙◌, ap}
use mathlib.Core.Logic.{⊎_elim}
use borrow.Author.Tests.{eqb-true, ltb-true}
use lib.Dec.{ltb}
use lib.ListN.{length, get_or}
use Rattle.laws.specs.Least.{least}
use Rattle.laws.proofs.Bools.{either, clash}
use Rattle.laws.proofs.Every.{every, every-at}
use Rattle.laws.proofs.Leasts.{least-is}
use Rattle.kinds.specs.declared.of_files.Kind.{Kind}
use Rattle.kinds.specs.declared.of_files.Fixed.{Fixed}
use Rattle.std.specs.Prelude.{Option, Some, None}
use Rattle.kinds.specs.Kinds.{fixed_of, kinds, no_kind, kind_from, name_is, kind_of, whose, request_of, daily_of}

-- what a name says, and whether it says a kind
abbrev kind_in : Option Kind → Kind
kind_in (Some k) = k
kind_in None = no_kind

abbrev is_known : Option Kind → Bool
is_known (Some k) = true
is_known None = false

-- a number that names a kind is its name
pub kind-name : (n : ℕ) (k : Kind) → kind_of n ≡ Some k → k.own.name ≡ n
unfolding kind_of kind_from name_is
kind-name n k e = ⊎_elim found none (either (ltb m (length kinds)))
  where
    m : ℕ
    m = least (name_is n) (length kinds)

    found : ltb m (length kinds) ≡ true → k.own.name ≡ n
    found t =
        let is = ap kind_in (rw t at e) in
        rw (← is) (eqb-true (get_or kinds m no_kind).own.name n ((least-is (name_is n) (length kinds)).holds (ltb-true m (length kinds) t)))

    none : ltb m (length kinds) ≡ false → k.own.name ≡ n
    none f = absurd (clash refl (sym (ap is_known (rw f at e))))

-- kinds that numbers name, with one name, are one kind
pub one_name : (m n : ℕ) (k l : Kind) → kind_of m ≡ Some k → kind_of n ≡ Some l → k.own.name ≡ l.own.name → k ≡ l
one_name m n k l a b e =
    let same : m ≡ n = sym (kind-name m k a) ∙ (e ∙ kind-name n l b) in
    ap kind_in (sym a ∙ (ap kind_of same ∙ b))

-- one computed test over all kinds, turned into the rule of each that a number names
pub known-every : (p : Kind → Bool) → every p kinds ≡ true → (n : ℕ) (k : Kind) → kind_of n ≡ Some k → p k ≡ true
unfolding kind_of kind_from
known-every p t n k e = ⊎_elim found none (either (ltb m (length kinds)))
  where
    m : ℕ
    m = least (name_is n) (length kinds)

    found : ltb m (length kinds) ≡ true → p k ≡ true
    found b = rw (← ap kind_in (rw b at e)) (every-at p kinds t m no_kind (ltb-true m (length kinds) b))

    none : ltb m (length kinds) ≡ false → p k ≡ true
    none f = absurd (clash refl (sym (ap is_known (rw f at e))))

-- a kind of which a test holds is the same kind to the reader, and the test holds of its form's numbers
module _ (p : Fixed → Bool) (n : ℕ) (k : Kind) where
  abbrev Tested : Kind → Type 0
  Tested l = (l ≡ k) × (p (fixed_of k) ≡ true)

  whose-is : (l : Kind) → whose p (Some l) ≡ Some k → Tested l
  whose-is l e = ⊎_elim yes no (either (p (fixed_of l)))
    where
      yes : p (fixed_of l) ≡ true → Tested l
      yes t = let same = ap kind_in (rw t at e) in (same, rw (← same) t)

      no : p (fixed_of l) ≡ false → Tested l
      no f = absurd (clash refl (sym (ap is_known (rw f at e))))

  named-whose : (m : Option Kind) → kind_of n ≡ m → whose p m ≡ Some k → (kind_of n ≡ Some k) × (p (fixed_of k) ≡ true)
  named-whose (Some l) e w = let x = whose-is l w in (e ∙ ap Some x.0, x.1)
  named-whose None e w = absurd (clash refl (sym (ap is_known w)))

module _ (n : ℕ) (k : Kind) where
  pub request-known : request_of n ≡ Some k → (kind_of n ≡ Some k) × ((fixed_of k).written ≡ true)
  unfolding request_of
  request-known w = named-whose (λ f. f.written) n k (kind_of n) refl w

  pub daily-known : daily_of n ≡ Some k → (kind_of n ≡ Some k) × ((fixed_of k).daily ≡ true)
  unfolding daily_of
  daily-known w = named-whose (λ f. f.daily) n k (kind_of n) refl w
