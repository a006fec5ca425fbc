-- Six bytes and the number that they make: a row of the table is one or the other.
-- Assumes nothing.
use Rattle.std.proofs.Common.{ℕ, zero, suc, ◌<◌, Bool, true, ◌&&◌, ◌||◌, List, [], ◌∷◌, map, length, get_or, drop, ◌≡◌, refl, sym, ◌∙◌, ap, eqb, ltb, arith}
use Rattle.std.specs.Cmp.Lexicographic.{pointwise}
use Rattle.std.specs.List.{list_any}
use Rattle.std.specs.Int.{to_be_bytes, from_be_bytes}
use Rattle.std.proofs.Common.{w64, Decides}
use Rattle.std.proofs.lemmas.Nat.{be_bytes_8}
use Rattle.std.proofs.lemmas.Bool.Decides.{Decides-eqb, nat_tests}
use Rattle.std.proofs.lemmas.Slice.Eq.{slice_eq-Decides}
use mathlib.Core.Logic.{⊎_elim}
use borrow.Author.Tests.{eqb-true, eq-eqb, ltb-true, ltb-false, lt-ltb}
use lib.ListN.{get_or-eq_default}
use Rattle.text.specs.Characters.{within}
use Rattle.laws.proofs.Bools.{either, clash, and_left, and_right}
use Rattle.laws.proofs.Every.{every, every-at}
use Rattle.laws.proofs.Positions.{some_any}
use Rattle.evidence_kinds.specs.Evidence.{allow, allowed, name_of, small, row_of, allows_at, extension}

-- six bytes as a number, and a number as six bytes
abbrev packed : List ℕ → ℕ
packed r = from_be_bytes w64 (0 ∷ 0 ∷ r)

abbrev unpacked : ℕ → List ℕ
unpacked n = drop 2 (to_be_bytes w64 n)

-- r is six bytes
abbrev six : List ℕ → Bool
six r = eqb (length r) 6 && every (λ b. ltb b 256) r

-- the table as bytes
abbrev pub rows : List (List ℕ)
rows = map unpacked allowed

six_long : (r : List ℕ) → six r ≡ true → length r ≡ 6
six_long r t = eqb-true (length r) 6 (and_left (eqb (length r) 6) (every (λ b. ltb b 256) r) t)

byte_of : (r : List ℕ) → six r ≡ true → (i : ℕ) → get_or (0 ∷ 0 ∷ r) i 0 < 256
byte_of r t zero = omega arith
byte_of r t (suc zero) = omega arith
byte_of r t (suc (suc i)) =
    ⊎_elim
    (λ l. ltb-true (get_or r i 0) 256 (every-at (λ b. ltb b 256) r (and_right (eqb (length r) 6) (every (λ b. ltb b 256) r) t) i 0 (ltb-true i (length r) l)))
    (λ f. rw (get_or-eq_default r 0 (ltb-false i (length r) f)) (omega arith))
    (either (ltb i (length r)))

again : (r : List ℕ) → six r ≡ true → to_be_bytes w64 (packed r) ≡ 0 ∷ 0 ∷ r
again r t = be_bytes_8 (0 ∷ 0 ∷ r) (packed r) (omega (arith, six_long r t)) (byte_of r t) refl

-- six bytes are equal when their numbers are
same_packed : (r q : List ℕ) → six r ≡ true → six q ≡ true → pointwise eqb r q ≡ eqb (packed r) (packed q)
same_packed r q t u =
    ⊎_elim (λ p. p ∙ sym (eq-eqb (packed r) (packed q) (ap packed (is.0 p))))
    (λ f. ⊎_elim (λ e. absurd (clash (is.1 (back (eqb-true (packed r) (packed q) e))) f)) (λ g. f ∙ sym g) (either (eqb (packed r) (packed q))))
    (either (pointwise eqb r q))
  where
    is : Decides (pointwise eqb r q) (r ≡ q)
    is = slice_eq-Decides Decides-eqb r q (pointwise eqb r q) refl

    back : packed r ≡ packed q → r ≡ q
    back e = ap (drop 2) (sym (again r t) ∙ (ap (to_be_bytes w64) e ∙ again q u))

any_packed : (rs : List (List ℕ)) (q : List ℕ) → every six rs ≡ true → six q ≡ true → list_any (λ r. pointwise eqb r q) rs ≡ list_any (λ n. eqb n (packed q)) (map packed rs)
any_packed [] q t u = refl
any_packed (r ∷ rs) q t u =
    ap (λ (b : Bool). b || list_any (λ x. pointwise eqb x q) rs) (same_packed r q (and_left (six r) (every six rs) t) u) ∙
    ap (λ (b : Bool). eqb (packed r) (packed q) || b) (any_packed rs q (and_right (six r) (every six rs) t) u)

all_six : every six rows ≡ true
unfolding allowed
all_six = refl

all_packed : map packed rows ≡ allowed
unfolding allowed
all_packed = refl

-- what is asked is six bytes, and its number is the one of the table
small-byte : (b : ℕ) → b < 256 → small b < 256
unfolding small within
small-byte b h = grind (arith, nat_tests)

module _ (kind : ℕ) (item : List ℕ) where
  packed_row : packed (row_of kind item) ≡ allow kind (name_of item)
  unfolding row_of name_of
  packed_row = omega arith

  six_row : kind < 256 → ((i : ℕ) → get_or item i 0 < 256) → six (row_of kind item) ≡ true
  unfolding row_of
  six_row k b =
      rw (
        lt-ltb kind 256 k,
        lt-ltb (small (get_or item 0 0)) 256 (small-byte (get_or item 0 0) (b 0)),
        lt-ltb (small (get_or item 1 0)) 256 (small-byte (get_or item 1 0) (b 1)),
        lt-ltb (small (get_or item 2 0)) 256 (small-byte (get_or item 2 0) (b 2)),
        lt-ltb (small (get_or item 3 0)) 256 (small-byte (get_or item 3 0) (b 3)),
        lt-ltb (small (get_or item 4 0)) 256 (small-byte (get_or item 4 0) (b 4)),
      )

  -- the table holds what is asked when its numbers do
  pub row_allowed : kind < 256 → ((i : ℕ) → get_or item i 0 < 256) → list_any (λ r. pointwise eqb r (row_of kind item)) rows ≡ extension kind item
  unfolding extension allows_at
  row_allowed k b =
      any_packed rows (row_of kind item) all_six (six_row k b) ∙
      (ap (list_any (λ n. eqb n (packed (row_of kind item)))) all_packed ∙
      (ap (λ (m : ℕ). list_any (λ n. eqb n m) allowed) packed_row ∙ sym (some_any (λ n. eqb n (allow kind (name_of item))) allowed 0)))
