-- The laws of the first refusal among answers: the loop, and what it says of each.
-- Assumes nothing.
use Prim.Native.Nat.{ℕ, ◌+◌, ◌<◌}
use mathlib.Core.Bool.{Bool, true, false, cond}
use mathlib.Core.Path.{◌≡◌, refl, sym, ◌∙◌, ap}
use mathlib.Core.Logic.{⊎_elim, ◌⊎◌, inl, inr}
use native.Mathlib.Nat.{le_refl, eq-or-lt_of_le}
use native.Mathlib.Omega.{arith}
use borrow.Author.Tests.{lt-ltb, le-ltb, not-false, not-true, eqb-true, eqb-false, eq-eqb, ne_eqb}
use Rattle.laws.specs.Least.{least}
use Rattle.laws.proofs.Bools.{either}
use Rattle.laws.proofs.Leasts.{least-is, least_more, least-stop, least-again, least-before, least-none}
use Rattle.answers.specs.declared.told.Answer.{Answer}
use Rattle.answers.specs.Answers.{accepted, refuses, refuses_at, told_at, first_told, ◌then◌}

-- equal answers have the same number
abbrev pub number_of : {a b : Answer} → a ≡ b → a.number ≡ b.number
number_of e = ap (λ (x : Answer). x.number) e

-- an answer with number 0 is no refusal, any other is one
pub refuses-not : (a : Answer) → a.number ≡ 0 → refuses a ≡ false
unfolding refuses
refuses-not a e = rw (eq-eqb a.number 0 e)

pub refuses-is : (a : Answer) → (a.number ≡ 0 → ⊥) → refuses a ≡ true
unfolding refuses
refuses-is a ne = rw (ne_eqb a.number 0 ne)

pub refuses-zero : (a : Answer) → refuses a ≡ false → a.number ≡ 0
unfolding refuses
refuses-zero a f = eqb-true a.number 0 (not-false _ f)

pub refuses-other : (a : Answer) → refuses a ≡ true → a.number ≡ 0 → ⊥
unfolding refuses
refuses-other a t = eqb-false a.number 0 (not-true _ t)

-- a test that tells a refusal where it fails is good only where it holds
pub tested : (t : Bool) (a : Answer) → (a.number ≡ 0 → ⊥) → (cond t accepted a).number ≡ 0 → t ≡ true
tested true a ne e = refl
tested false a ne e = absurd (ne e)

-- one answer after the other
pub then-first : (a b : Answer) → (a.number ≡ 0 → ⊥) → (a then b) ≡ a
unfolding ◌then◌
then-first a b ne = rw (refuses-is a ne)

pub then-second : (a b : Answer) → a.number ≡ 0 → (a then b) ≡ b
unfolding ◌then◌
then-second a b e = rw (refuses-not a e)

-- both are good where neither refuses
pub then-zero : (a b : Answer) → (a then b).number ≡ 0 → (a.number ≡ 0) × (b.number ≡ 0)
then-zero a b e = ⊎_elim bad good (either (refuses a))
  where
    bad : refuses a ≡ true → (a.number ≡ 0) × (b.number ≡ 0)
    bad t = absurd (refuses-other a t (number_of (sym (then-first a b (refuses-other a t))) ∙ e))

    good : refuses a ≡ false → (a.number ≡ 0) × (b.number ≡ 0)
    good f = (refuses-zero a f, number_of (sym (then-second a b (refuses-zero a f))) ∙ e)

module _ (f : ℕ → Answer) where
  -- the loop: no refusal before i so far
  abbrev pub So-far : ℕ → Type 0
  So-far i = least (refuses_at f) i ≡ i

  pub told_more : (i : ℕ) → So-far i → (f i).number ≡ 0 → So-far (i + 1)
  unfolding refuses_at
  told_more i e z = least_more (refuses_at f) i e (refuses-not (f i) z)

  pub told-stop : (i n : ℕ) → i < n → So-far i → ((f i).number ≡ 0 → ⊥) → first_told f n ≡ f i
  unfolding first_told told_at refuses_at
  told-stop i n h e ne = rw (least-stop (refuses_at f) i n h e (refuses-is (f i) ne), lt-ltb i n h)

  pub told-end : (n : ℕ) → So-far n → first_told f n ≡ accepted
  unfolding first_told told_at
  told-end n e = rw (e, le-ltb n n (le_refl n))

  -- every answer is good
  abbrev pub All-good : ℕ → Type 0
  All-good n = (i : ℕ) → i < n → (f i).number ≡ 0

  -- answer i is the first refusal, and it is told
  pub record First (n i : ℕ) : Type 0 where
    pub below : i < n
    pub bad : (f i).number ≡ 0 → ⊥
    pub before : All-good i
    pub told : first_told f n ≡ f i

  pub record Good (n : ℕ) : Type 0 where
    pub all : All-good n
    pub told : first_told f n ≡ accepted

  -- either all are good and accepted is told, or the first refusal is
  pub told : (n : ℕ) → Good n ⊎ ((i : ℕ) × First n i)
  unfolding refuses_at
  told n = ⊎_elim none found (eq-or-lt_of_le (least-is (refuses_at f) n).within)
    where
      none : So-far n → Good n ⊎ ((i : ℕ) × First n i)
      none e = inl (record { all = λ i h. refuses-zero (f i) (least-before (refuses_at f) n e i h); told = told-end n e })

      found : least (refuses_at f) n < n → Good n ⊎ ((i : ℕ) × First n i)
      found h =
          let i = least (refuses_at f) n in
          let ne = refuses-other (f i) ((least-is (refuses_at f) n).holds h) in
          inr (
            i,
            record {
              below = h;
              bad = ne;
              before = λ j l. refuses-zero (f j) ((least-is (refuses_at f) n).before j l);
              told = told-stop i n h (least-again (refuses_at f) n) ne;
            },
          )

  pub all_told : (n : ℕ) → (first_told f n).number ≡ 0 → All-good n
  all_told n e = ⊎_elim (λ g. g.all) (λ b. absurd (b.1.bad (number_of (sym b.1.told) ∙ e))) (told n)

  pub told-all : (n : ℕ) → All-good n → first_told f n ≡ accepted
  told-all n g = ⊎_elim (λ a. a.told) (λ b. absurd (b.1.bad (g b.0 b.1.below))) (told n)

-- none before i is refused
pub so_far : (f : ℕ → Answer) (i : ℕ) → All-good f i → So-far f i
unfolding refuses_at
so_far f i g = least-none (refuses_at f) i (λ m h. refuses-not (f m) (g m h))

-- answer by answer the same
pub told_same : (f g : ℕ → Answer) (n : ℕ) → ((i : ℕ) → i < n → f i ≡ g i) → first_told f n ≡ first_told g n
told_same f g n e = ⊎_elim good bad (told f n)
  where
    same : (i : ℕ) → i < n → (f i).number ≡ 0 → (g i).number ≡ 0
    same i h z = number_of (sym (e i h)) ∙ z

    good : Good f n → first_told f n ≡ first_told g n
    good a = a.told ∙ sym (told-all g n (λ i h. same i h (a.all i h)))

    bad : ((i : ℕ) × First f n i) → first_told f n ≡ first_told g n
    bad b =
        let i = b.0 in
        let l = b.1.below in
        b.1.told ∙ (e i l ∙ sym (told-stop g i n l (so_far g i (λ m h. same m (omega (arith, l)) (b.1.before m h))) (λ z. b.1.bad (number_of (e i l) ∙ z))))
