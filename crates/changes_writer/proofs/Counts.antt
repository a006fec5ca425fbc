-- Refused and applied records add up to all of them; which record stands where.
-- Assumes nothing.
use Prim.Native.Nat.{ℕ, zero, suc, ◌+◌, ◌<◌}
use mathlib.Core.Bool.{true, false}
use mathlib.Core.List.{List}
use mathlib.Core.Logic.{⊎_elim}
use mathlib.Core.Path.{◌≡◌}
use native.Mathlib.Omega.{arith}
use borrow.Author.Tests.{ltb-true, ltb-false}
use lib.Dec.{ltb}
use Rattle.laws.specs.Sum.{sum}
use Rattle.laws.proofs.Bools.{either}
use Rattle.laws.proofs.Sums.{sum-add, sum-up, sum-zero}
use Rattle.kinds.specs.Kinds.{EB11}
use Rattle.tables.specs.declared.totals.Quantity.{Quantity}
use Rattle.records.specs.Records.{data_of}
use Rattle.records.specs.Quantities.{worth_at, quantity_of}
use Rattle.changes.specs.Answers.{says_no}
use Rattle.changes_writer.specs.Building.{one_if, refused_to, worth_if, refused_of, worth_unless, applied_of}

-- *Adds up*: for every quantity, so for all records and for those of each kind
pub adds-up : (s answers : List ℕ) (q : Quantity) → quantity_of EB11 s q ≡ refused_of s answers q + applied_of s answers q
unfolding quantity_of refused_of applied_of worth_if worth_unless
adds-up s answers q =
    sum-add (worth_if s answers q) (worth_unless s answers q) (worth_at EB11 s q) (data_of EB11 s)
    (λ i h. ⊎_elim (λ t. rw t (omega arith)) (λ f. rw f (omega arith)) (either (says_no answers i)))

module _ (answers : List ℕ) where
  one-no : (i : ℕ) → says_no answers i ≡ true → one_if answers i ≡ 1
  unfolding one_if
  one-no i t = rw t

  one-yes : (i : ℕ) → says_no answers i ≡ false → one_if answers i ≡ 0
  unfolding one_if
  one-yes i f = rw f

  -- a refused record has fewer before it than any record behind it
  pub in_order : (i j : ℕ) → i < j → says_no answers i ≡ true → refused_to answers i < refused_to answers j
  unfolding refused_to
  in_order i j h t = omega (arith, sum-up (one_if answers) j i h, one-no i t)

  -- a record among the first n that is refused and has k refused before it
  abbrev Found : ℕ → ℕ → Type 0
  Found n k = (i : ℕ) × ((i < n) × ((says_no answers i ≡ true) × (refused_to answers i ≡ k)))

  -- each place behind the header has one
  pub some-no : (n k : ℕ) → k < refused_to answers n → Found n k
  unfolding refused_to sum
  some-no zero k h = absurd (omega arith)
  some-no (suc n) k h = ⊎_elim (earlier (some-no n k)) (λ f. ⊎_elim (last f) (none f) (either (says_no answers n))) (either (ltb k (sum (one_if answers) n)))
    where
      earlier : (k < refused_to answers n → Found n k) → ltb k (sum (one_if answers) n) ≡ true → Found (suc n) k
      earlier more t =
          let x = more (ltb-true k (sum (one_if answers) n) t) in
          (x.0, (omega (arith, x.1.0), x.1.1))

      last : ltb k (sum (one_if answers) n) ≡ false → says_no answers n ≡ true → Found (suc n) k
      last f t = (n, (omega arith, (t, omega (arith, ltb-false k (sum (one_if answers) n) f, one-no n t, h))))

      none : ltb k (sum (one_if answers) n) ≡ false → says_no answers n ≡ false → Found (suc n) k
      none f g = absurd (omega (arith, ltb-false k (sum (one_if answers) n) f, one-yes n g, h))

  -- where all have a yes, none is refused
  pub all_yes : (n : ℕ) → ((i : ℕ) → i < n → says_no answers i ≡ false) → refused_to answers n ≡ 0
  unfolding refused_to
  all_yes n f = sum-zero (one_if answers) n (λ i h. one-yes i (f i h))
