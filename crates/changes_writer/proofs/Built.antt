-- How long the records of an EB12 are, and how many.
-- Assumes nothing.
use Prim.Native.Nat.{ℕ, zero, suc, ◌+◌, ◌-◌, ◌*◌, ◌≤◌, ◌<◌}
use mathlib.Core.Bool.{true, false, cond, not}
use mathlib.Core.List.{List, [], ◌++◌, append_assoc}
use mathlib.Core.Logic.{⊎_elim}
use mathlib.Core.Path.{◌≡◌, refl, sym, ◌∙◌, ap}
use native.Mathlib.Nat.{zero-add, le_refl}
use native.Mathlib.Numerals.{add-one}
use native.Mathlib.Omega.{arith}
use borrow.Author.Tests.{eq-eqb, ne_eqb, ltb-true, ltb-false}
use lib.Dec.{eqb, ltb}
use lib.ListN.{length, get_or, replicate, length-append}
use Rattle.std.specs.Prelude.{count_by}
use Rattle.laws.specs.Joined.{joined}
use Rattle.laws.specs.Stored.{stored}
use Rattle.laws.specs.Sum.{sum}
use Rattle.laws.proofs.Bools.{either}
use Rattle.laws.proofs.Joins.{joined-more}
use Rattle.laws.proofs.Positions.{sum_places}
use Rattle.laws.proofs.Parts.{part_length}
use Rattle.laws.proofs.Stores.{stored-length, stored_next, stored-then, stored-none}
use Rattle.laws.proofs.Sums.{sum-start, sum_more, sum-up, sum_bound}
use Rattle.numbers.specs.Numbers.{digits_of}
use Rattle.numbers.proofs.Values.{digits-length}
use Rattle.answers.specs.Storing.{at_front}
use Rattle.kinds.specs.Kinds.{EB11}
use Rattle.tables.specs.Totals.{totals_of}
use Rattle.records.specs.Records.{record_at, record_of, count_of, data_of, trailer_of}
use Rattle.records.proofs.Places.{record-inside}
use Rattle.reader.proofs.Places.{total_inside}
use Rattle.changes.specs.Halves.{record_in}
use Rattle.changes.specs.Answers.{is_no, says_no}
use Rattle.changes.proofs.Found.{record-length}
use Rattle.changes_writer.specs.Building.{one_if, refused_to, refused_of, name, header_for, result_for, refused_for, record_for, total_in, totals_to, trailer_for, file_for, Answered}

-- a yes is 0, and all else a no
pub no-yes : (answers : List ℕ) (i : ℕ) → get_or answers i 0 ≡ 0 → says_no answers i ≡ false
unfolding says_no is_no
no-yes answers i e = rw (eq-eqb (get_or answers i 0) 0 e)

pub no_other : (answers : List ℕ) (i : ℕ) → (get_or answers i 0 ≡ 0 → ⊥) → says_no answers i ≡ true
unfolding says_no is_no
no_other answers i ne = rw (ne_eqb (get_or answers i 0) 0 ne)

-- one record more
module _ (s answers : List ℕ) (i : ℕ) where
  pub yes-more : says_no answers i ≡ false → refused_to answers i ≡ refused_to answers (i + 1)
  unfolding refused_to one_if
  yes-more f = sym (sum_more (one_if answers) i ∙ rw f (omega arith))

  pub yes-record : says_no answers i ≡ false → record_for s answers i ≡ []
  unfolding record_for
  yes-record f = rw f

  pub no_more : says_no answers i ≡ true → refused_to answers i + 1 ≡ refused_to answers (i + 1)
  unfolding refused_to one_if
  no_more t = sym (sum_more (one_if answers) i ∙ rw t)

  pub no_record : says_no answers i ≡ true → record_for s answers i ≡ refused_for (record_in s i) (refused_to answers i + 1) (get_or answers i 0)
  unfolding record_for
  no_record t = rw t

-- of no records none is refused, and of more records not fewer
pub refused-start : (answers : List ℕ) → 0 ≡ refused_to answers 0
unfolding refused_to
refused-start answers = sym (sum-start (one_if answers))

pub refused-within : (answers : List ℕ) (i n : ℕ) → i ≤ n → refused_to answers i ≤ refused_to answers n
unfolding refused_to
refused-within answers i n h =
    ⊎_elim (λ t. omega (arith, sum-up (one_if answers) n i (ltb-true i n t))) (λ f. let e : i ≡ n = omega (arith, ltb-false i n f) in rw e (le_refl (sum (one_if answers) n))) (either (ltb i n))

pub refused-most : (answers : List ℕ) (n : ℕ) → refused_to answers n ≤ n
unfolding refused_to one_if
refused-most answers n =
    let most = sum_bound (one_if answers) 1 n (λ k h. ⊎_elim (λ t. rw t (le_refl 1)) (λ f. rw f (omega arith)) (either (says_no answers k))) in
    omega (arith, most)

-- as many are refused as answers are no yes
pub refused_all : (answers : List ℕ) → count_by (λ a. not (eqb a 0)) answers ≡ refused_to answers (length answers)
unfolding refused_to one_if says_no is_no
refused_all answers = sum_places (λ a. cond (not (eqb a 0)) 1 0) answers 0

-- each record has 120 bytes
pub refused-length : (rec : List ℕ) (serial code : ℕ) → length rec ≡ 120 → length (refused_for rec serial code) ≡ 120
unfolding refused_for result_for
refused-length rec serial code e =
    let first : length (stored 1 (digits_of 8 serial) rec) ≡ 120 = stored-length 1 (digits_of 8 serial) rec (omega (arith, digits-length 8 serial, e)) ∙ e in
    stored-length 91 (result_for code) (stored 1 (digits_of 8 serial) rec) (omega (arith, first)) ∙ first

named-length : (rec : List ℕ) → length rec ≡ 120 → length (stored 19 name rec) ≡ 120
unfolding name
named-length rec e = stored-length 19 name rec (omega (arith, e)) ∙ e

blank-length : (rec : List ℕ) → length rec ≡ 120 → length (stored 110 (replicate 10 0x20) rec) ≡ 120
blank-length rec e = stored-length 110 (replicate 10 0x20) rec (omega (arith, e)) ∙ e

-- the totals lie inside the trailer
pub totals-length : (s answers rec : List ℕ) → length rec ≡ 120 → (t : ℕ) → t ≤ length (totals_of EB11) → length (totals_to s answers rec t) ≡ 120
unfolding totals_to
totals-length s answers rec e zero h = e
totals-length s answers rec e (suc t) h =
    let before = totals-length s answers rec e t (omega arith) in
    stored-length (total_in t).1 (digits_of (total_in t).2 (refused_of s answers (total_in t).3)) (totals_to s answers rec t)
    (rw (digits-length (total_in t).2 (refused_of s answers (total_in t).3), before) (total_inside EB11 t (omega arith))) ∙ before

pub totals-start : (s answers rec : List ℕ) → rec ≡ totals_to s answers rec 0
unfolding totals_to
totals-start s answers rec = refl

pub totals-more :
    (s answers rec : List ℕ) (t : ℕ) →
    totals_to s answers rec (t + 1) ≡ stored (total_in t).1 (digits_of (total_in t).2 (refused_of s answers (total_in t).3)) (totals_to s answers rec t)
unfolding totals_to
totals-more s answers rec t = rw (add-one t)

-- of an accepted EB11 and its answers
module _ (s answers : List ℕ) (a : Answered s answers) where
  record-here : (i : ℕ) → i < count_of EB11 s → length (record_of EB11 s i) ≡ 120
  unfolding record_at
  record-here i h = part_length (i * 120) 120 s (record-inside EB11 s i h)

  pub header-length : length (header_for s) ≡ 120
  unfolding header_for
  header-length = named-length (record_of EB11 s 0) (record-here 0 (omega (arith, a.meets.lengths.fewest)))

  pub trailer-length : length (trailer_for s answers) ≡ 120
  unfolding trailer_for
  trailer-length =
      totals-length s answers (stored 110 (replicate 10 0x20) (stored 19 name (trailer_of EB11 s)))
      (blank-length (stored 19 name (trailer_of EB11 s)) (named-length (trailer_of EB11 s) (record-here (count_of EB11 s - 1) (omega (arith, a.meets.lengths.fewest)))))
      (length (totals_of EB11)) (omega arith)

  record-long : (i : ℕ) → i < length answers → length (record_for s answers i) ≡ one_if answers i * 120
  unfolding record_for one_if
  record-long i h =
      ⊎_elim
      (λ t. rw t (refused-length (record_in s i) (refused_to answers i + 1) (get_or answers i 0) (record-length s a.meets i (rw (← a.many) h))))
      (λ f. rw f)
      (either (says_no answers i))

  -- so many bytes as 120 for each that is refused
  pub records-length : (i : ℕ) → i ≤ length answers → length (joined (record_for s answers) i) ≡ refused_to answers i * 120
  unfolding refused_to joined sum
  records-length zero h = refl
  records-length (suc i) h =
      length-append (joined (record_for s answers) i) (record_for s answers i) ∙
      omega (arith, records-length i (omega arith), record-long i (omega arith))

  pub file-length : length (file_for s answers) ≡ refused_to answers (length answers) * 120 + 240
  unfolding file_for
  file-length =
      length-append (header_for s) _ ∙
      rw (length-append (joined (record_for s answers) (data_of EB11 s)) (trailer_for s answers), header-length, trailer-length, ← a.many, records-length (length answers) (omega arith))
      (omega arith)

  -- the next record behind those that are stored
  pub records-more :
      (old : List ℕ) (i k : ℕ) → k ≡ refused_to answers i → i < length answers → 120 ≤ length old →
      stored (k * 120 + 120) (record_for s answers i) (stored 120 (joined (record_for s answers) i) old) ≡ stored 120 (joined (record_for s answers) (i + 1)) old
  records-more old i k e h room =
      let at : k * 120 + 120 ≡ 120 + length (joined (record_for s answers) i) = omega (arith, ap (λ (x : ℕ). x * 120) e, records-length i (omega arith)) in
      rw (at, joined-more (record_for s answers) i) (stored_next 120 (joined (record_for s answers) i) old room (record_for s answers i))

  pub records-none : (old : List ℕ) → old ≡ stored 120 (joined (record_for s answers) 0) old
  unfolding joined
  records-none old = stored-none 120 old

  -- all of it, one piece behind the other
  pub file-stored :
      (old : List ℕ) (m : ℕ) → m ≡ refused_to answers (length answers) → m * 120 + 240 ≤ length old →
      stored (m * 120 + 120) (trailer_for s answers) (stored 120 (joined (record_for s answers) (length answers)) (stored 0 (header_for s) old)) ≡ at_front (file_for s answers) old
  unfolding file_for
  file-stored old m e room =
      let head = header-length in
      let long = stored-length 0 (header_for s) old (omega (arith, head)) in
      let records = joined (record_for s answers) (length answers) in
      let first : stored 120 records (stored 0 (header_for s) old) ≡ stored 0 (header_for s ++ records) old = stored-then 0 120 (header_for s) records old _ _ refl refl (omega (arith, head)) (omega arith) in
      let at : m * 120 + 120 ≡ 0 + length (header_for s ++ records) = rw (length-append (header_for s) records) (omega (arith, head, records-length (length answers) (omega arith), ap (λ (x : ℕ). x * 120) e)) in
      rw (← a.many)
      (stored-then 0 (m * 120 + 120) (header_for s ++ records) (trailer_for s answers) old _ _ first refl at (omega arith) ∙
      rw (append_assoc (header_for s) records (trailer_for s answers), zero-add (length (header_for s ++ (records ++ trailer_for s answers)))))
