-- The marks, codes and amounts of the results of an accepted file.
-- Assumes nothing.
use Prim.Native.Nat.{ℕ, ◌+◌, ◌≤◌, ◌<◌, zero-le}
use mathlib.Core.Bool.{true, not, ◌||◌}
use mathlib.Core.List.{List}
use mathlib.Core.Path.{◌≡◌, sym, ◌∙◌}
use mathlib.Core.Logic.{◌⊎◌, inl, inr, ⊎_elim}
use native.Mathlib.Nat.{add-zero, eq-or-lt_of_le}
use native.Mathlib.Omega.{arith}
use borrow.Author.Tests.{eqb-true, not-true}
use lib.Dec.{eqb}
use lib.ListN.{length, get_or, drop}
use Rattle.laws.specs.Part.{part}
use Rattle.laws.proofs.Bools.{and_left, and_right, or_cases, clash}
use Rattle.laws.proofs.Parts.{part_at, drop-part}
use Rattle.text.specs.Characters.{digits, zeros}
use Rattle.numbers.specs.Numbers.{word_of}
use Rattle.numbers.proofs.Values.{zeros-if}
use Rattle.kinds.specs.declared.of_files.Own.{Own}
use Rattle.kinds.specs.Kinds.{fixed_of}
use Rattle.tables.specs.Codes.{is_table_code}
use Rattle.tables.specs.Tables.{data_front, enrolment_data, debit_data, enrolment_result_data, debit_result_data}
use Rattle.layout.specs.Items.{amount_of, mark_of}
use Rattle.layout.specs.Rules.{failed, partly, meets, holds}
use Rattle.records.specs.Records.{record_of, data_of}
use Rattle.reader.specs.Meets.{Meets}
use Rattle.reader.proofs.Accepted.{data-row}
use Rattle.reader.proofs.Cut.{record-length}
use Rattle.kinds.specs.declared.of_pairs.PairKind.{PairKind}
use Rattle.kinds.specs.declared.of_pairs.Family.{Family}
use Rattle.kinds.specs.declared.of_pairs.Family.TheVariants.{Enrolment, Debit}
use Rattle.kinds.specs.Pairs.{result_in, result_kind}
use Rattle.agreement.specs.Marks.{mark_in, code_in}
use Rattle.agreement.specs.Same.{result_at}

-- the mark of a result's item is its first byte
first_byte : (start : ℕ) (rec : List ℕ) → get_or (part start 5 rec) 0 0 ≡ get_or rec start 0
first_byte start rec = part_at start 5 rec 0 (omega arith) ∙ rw add-zero

mark-failed : (start : ℕ) (rec : List ℕ) → failed (part start 5 rec) ≡ true → get_or rec start 0 ≡ 0x4E
unfolding failed
mark-failed start rec t = sym (first_byte start rec) ∙ eqb-true (get_or (part start 5 rec) 0 0) 0x4E (and_left _ (is_table_code (word_of (drop 1 (part start 5 rec)))) t)

mark-partly : (start : ℕ) (rec : List ℕ) → partly (part start 5 rec) ≡ true → get_or rec start 0 ≡ 0x50
unfolding partly
mark-partly start rec t =
    sym (first_byte start rec) ∙
    eqb-true (get_or (part start 5 rec) 0 0) 0x50
    (and_left _ (is_table_code (word_of (drop 1 (part start 5 rec))) || eqb (word_of (drop 1 (part start 5 rec))) 0x20202020) t)

-- its code is the four bytes that follow
code_is : (start : ℕ) (rec : List ℕ) → start + 5 ≤ length rec → drop 1 (part start 5 rec) ≡ part (start + 1) 4 rec
code_is start rec l = drop-part 1 start 5 rec (omega arith) l

-- a code is one of the table, or blank
abbrev pub Coded : ℕ → Type 0
Coded code = (is_table_code code ≡ true) ⊎ (code ≡ 0x20202020)

code-failed : (start : ℕ) (rec : List ℕ) → start + 5 ≤ length rec → failed (part start 5 rec) ≡ true → Coded (word_of (part (start + 1) 4 rec))
unfolding failed
code-failed start rec l t = inl (rw (← code_is start rec l) (and_right (eqb (get_or (part start 5 rec) 0 0) 0x4E) _ t))

code-partly : (start : ℕ) (rec : List ℕ) → start + 5 ≤ length rec → partly (part start 5 rec) ≡ true → Coded (word_of (part (start + 1) 4 rec))
unfolding partly
code-partly start rec l t =
    rw (← code_is start rec l)
    (⊎_elim (λ s. inl s) (λ b. inr (eqb-true _ 0x20202020 b)) (or_cases _ _ (and_right (eqb (get_or (part start 5 rec) 0 0) 0x50) _ t)))

-- a mark is "N" or "P"
abbrev pub Marked : ℕ → Type 0
Marked mark = (mark ≡ 0x4E) ⊎ (mark ≡ 0x50)

-- that of an enrolment result is "N"
enrolment-mark : (o : Own) (r : List ℕ) → Meets (result_in Enrolment o) r → (j : ℕ) → j < data_of (result_in Enrolment o) r → get_or (record_of (result_in Enrolment o) r (j + 1)) 91 0 ≡ 0x4E
unfolding holds meets data_front enrolment_data enrolment_result_data
enrolment-mark o r m j h = mark-failed 91 (record_of (result_in Enrolment o) r (j + 1)) (data-row (result_in Enrolment o) r m j h 11 (omega arith))

enrolment-code :
    (o : Own) (r : List ℕ) → Meets (result_in Enrolment o) r → (j : ℕ) → j < data_of (result_in Enrolment o) r →
    Coded (word_of (part 92 4 (record_of (result_in Enrolment o) r (j + 1))))
unfolding holds meets data_front enrolment_data enrolment_result_data
enrolment-code o r m j h =
    let k = result_in Enrolment o in
    code-failed 91 (record_of k r (j + 1)) (omega (arith, record-length k r m (j + 1) (omega arith))) (data-row k r m j h 11 (omega arith))

-- of a debit result, of any kind
module _ (o : Own) (r : List ℕ) (m : Meets (result_in Debit o) r) (j : ℕ) (h : j < data_of (result_in Debit o) r) where
  abbrev result : List ℕ
  result = record_of (result_in Debit o) r (j + 1)

  -- the mark is either
  pub debit-mark : Marked (mark_of result)
  unfolding holds meets data_front debit_data debit_result_data
  debit-mark =
      ⊎_elim (λ t. inl (mark-failed 68 result t)) (λ t. inr (mark-partly 68 result t))
      (or_cases (failed (part 68 5 result)) (partly (part 68 5 result)) (data-row (result_in Debit o) r m j h 8 (omega arith)))

  -- and so is the code
  debit-code : Coded (word_of (part 69 4 result))
  unfolding holds meets data_front debit_data debit_result_data
  debit-code =
      let inside : 68 + 5 ≤ length result = omega (arith, record-length (result_in Debit o) r m (j + 1) (omega arith)) in
      ⊎_elim (code-failed 68 result inside) (code-partly 68 result inside)
      (or_cases (failed (part 68 5 result)) (partly (part 68 5 result)) (data-row (result_in Debit o) r m j h 8 (omega arith)))

  -- the amount is not zero
  pub debit-amount : 0 < amount_of result
  unfolding holds meets digits data_front debit_data debit_result_data
  debit-amount = ⊎_elim none (λ l. l) (eq-or-lt_of_le zero-le)
    where
      item : List ℕ
      item = part 42 13 result

      all_digits : digits item ≡ true
      all_digits = data-row (result_in Debit o) r m j h 5 (omega arith)

      some-other : not (zeros item) ≡ true
      some-other = data-row (result_in Debit o) r m j h 6 (omega arith)

      none : 0 ≡ amount_of result → 0 < amount_of result
      none e = absurd (clash (zeros-if item all_digits (sym e)) (not-true (zeros item) some-other))

-- the same of both families
mark-in :
    (f : Family) (o : Own) (r : List ℕ) → Meets (result_in f o) r → (j : ℕ) → j < data_of (result_in f o) r →
    Marked (get_or (record_of (result_in f o) r (j + 1)) (fixed_of (result_in f o)).mark 0)
mark-in Enrolment o r m j h = inl (enrolment-mark o r m j h)
mark-in Debit o r m j h = debit-mark o r m j h

pub result-mark : (p : PairKind) (r : List ℕ) → Meets (result_kind p) r → (j : ℕ) → j < data_of (result_kind p) r → Marked (mark_in p (result_at p r j))
unfolding mark_in
result-mark p = mark-in p.family p.result

code-in :
    (f : Family) (o : Own) (r : List ℕ) → Meets (result_in f o) r → (j : ℕ) → j < data_of (result_in f o) r →
    Coded (word_of (part ((fixed_of (result_in f o)).mark + 1) 4 (record_of (result_in f o) r (j + 1))))
code-in Enrolment o r m j h = enrolment-code o r m j h
code-in Debit o r m j h = debit-code o r m j h

pub result-code : (p : PairKind) (r : List ℕ) → Meets (result_kind p) r → (j : ℕ) → j < data_of (result_kind p) r → Coded (code_in p (result_at p r j))
unfolding code_in
result-code p = code-in p.family p.result
