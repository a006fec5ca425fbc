-- The requests of an accepted debit pair: their payers, their dates, and how much may be taken of each.
-- Assumes nothing.
use Prim.Native.Nat.{ℕ, ◌+◌, ◌*◌, ◌≤◌, ◌<◌, ◌^◌}
use mathlib.Core.List.{List, [], ◌++◌}
use mathlib.Core.Path.{◌≡◌, sym, ◌∙◌, ap}
use mathlib.Core.Logic.{⊎_elim}
use native.Mathlib.Nat.{le_refl, min-le_left}
use native.Mathlib.Omega.{arith}
use lib.ListN.{length, take, drop, length-append, length-drop, length-take}
use lib.Seq.{length-take-le}
use Rattle.laws.specs.Part.{part}
use Rattle.laws.specs.Stored.{stored}
use Rattle.laws.proofs.Bools.{either}
use Rattle.laws.proofs.Parts.{part_length, part-part}
use Rattle.numbers.specs.Numbers.{value_of}
use Rattle.numbers.proofs.Values.{value-within}
use Rattle.kinds.specs.Kinds.{limit, fixed_of}
use Rattle.kinds.specs.declared.of_pairs.PairKind.{PairKind}
use Rattle.kinds.specs.Pairs.{request_kind}
use Rattle.layout.specs.Items.{amount_of}
use Rattle.records.specs.Records.{record_at, count_of, data_of}
use Rattle.records.specs.Quantities.{worth, worth_at}
use Rattle.records.proofs.Places.{record-inside}
use Rattle.keys.specs.Stands.{Inside}
use Rattle.keys.proofs.Spaced.{spaced-start, spaced-key}
use Rattle.matching.specs.Amounts.{asked_at, taken_at}
use Rattle.pair.proofs.Matched.{pair-known}
use Rattle.dues.specs.Posting.{payer_at, same_day, date_start, day_of, dates_as}
use Rattle.payers.specs.Turns.{payer_spacing, dues_key}
use Rattle.dues.proofs.Readied.{Accepts}

amount-small : (rec : List ℕ) → amount_of rec ≤ 10 ^ 13
unfolding value_of part
amount-small rec = omega (arith, value-within (part 42 13 rec) (length (part 42 13 rec)) 13 (rw (length-take 13 (drop 42 rec)) (min-le_left 13 (length (drop 42 rec)))))

-- what is stored within a list leaves it as long
stored-long : (at : ℕ) (x old : List ℕ) → at + length x ≤ length old → length (stored at x old) ≡ length old
stored-long at x old h =
    length-append (take at old ++ x) (drop (at + length x) old) ∙
    rw (length-append (take at old) x, length-take-le at old (omega arith), length-drop (at + length x) old) (omega arith)

start-within : (p : PairKind) → date_start p ≤ 6
unfolding date_start
start-within p = ⊎_elim (λ t. rw t (le_refl 6)) (λ f. rw f (omega arith)) (either (same_day p))

module _ (p : PairKind) (q r dates : List ℕ) (a : Accepts p q r dates) where
  size_is : (fixed_of (request_kind p)).size ≡ 150
  size_is = rw a.debit

  pub requests-few : data_of (request_kind p) q ≤ limit
  requests-few = omega (arith, (pair-known p q r _ a.pair).request.lengths.most)

  -- request i + 1 lies within the file
  within : (i : ℕ) → i < count_of (request_kind p) q → i * 150 + 150 ≤ length q
  within i h = rw size_is at (record-inside (request_kind p) q i h)

  pub payers-inside : Inside [] payer_spacing q (data_of (request_kind p) q)
  payers-inside i h = rw (spaced-start payer_spacing i) (omega (arith, within (i + 1) (omega arith)))

  -- its payer by its place in the file
  pub payer-key : (i : ℕ) → i < data_of (request_kind p) q → dues_key q i ≡ payer_at p q i
  unfolding dues_key payer_at record_at
  payer-key i h =
      let at : i * 150 + 241 ≡ (i + 1) * 150 + 91 = omega arith in
      spaced-key payer_spacing q i ∙
      (ap (λ (b : ℕ). part b 20 q) at ∙
      rw size_is (sym (part-part 91 20 ((i + 1) * 150) 150 q (omega arith) (within (i + 1) (omega arith)))))

  pub taken-small : (i : ℕ) → taken_at p q r i ≤ 10 ^ 13
  unfolding taken_at asked_at worth_at worth
  taken-small i = omega (arith, asked)
    where
      asked : asked_at p q i ≤ 10 ^ 13
      asked = rw a.debit (amount-small (record_at 150 (i + 1) q))

  -- its date is six bytes, so the dates stay twelve
  day-long : length (day_of p q) ≡ 6
  unfolding day_of record_at
  day-long =
      rw size_is (part_length 27 6 (part (0 * 150) 150 q) (rw (part_length (0 * 150) 150 q (within 0 (omega (arith, (pair-known p q r _ a.pair).request.lengths.fewest)))) (omega arith)))

  pub dates-long : length dates ≡ 12 → length (dates_as p q dates) ≡ length dates
  unfolding dates_as
  dates-long e = stored-long (date_start p) (day_of p q) dates (rw (day-long, e) (omega (arith, start-within p)))
