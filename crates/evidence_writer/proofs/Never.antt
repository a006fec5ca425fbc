-- What the writer never tells: a code that is not the header's, or a count that is wrong, since it writes both itself.
-- Assumes nothing.
use Prim.Native.Nat.{ℕ, ◌+◌, ◌<◌}
use mathlib.Core.Bool.{Bool, true, false, cond, not, ◌&&◌, false≢true}
use mathlib.Core.List.{List, ◌++◌, append_assoc}
use mathlib.Core.Logic.{◌⊎◌, inl, inr, ⊎_elim}
use mathlib.Core.Path.{◌≡◌, refl, ◌∙◌, ap}
use borrow.Author.Tests.{not-true, eqb-true}
use lib.Dec.{leb, ltb, eqb}
use lib.ListN.{length, get_or, drop, length-append}
use Rattle.laws.specs.Least.{least, further, none}
use Rattle.laws.specs.Part.{part, begins}
use Rattle.laws.proofs.Bools.{either}
use Rattle.laws.proofs.Every.{every-at}
use Rattle.laws.proofs.Leasts.{none_each}
use Rattle.laws.proofs.Parts.{same_self}
use Rattle.laws.proofs.Pieces.{piece-at}
use Rattle.keys.specs.Keys.{repeats_in}
use Rattle.kinds.specs.Kinds.{limit}
use Rattle.answers.specs.declared.told.Answer.{Answer}
use Rattle.answers.specs.Answers.{accepted, refused, refuses, first_told, ◌then◌}
use Rattle.answers.proofs.Refusals.{told, then-first, then-second, refuses-other, refuses-zero}
use Rattle.numbers.specs.Numbers.{digits_of}
use Rattle.numbers.proofs.Values.{digits-length}
use Rattle.tables.specs.declared.row.Row.{Row}
use Rattle.tables.specs.Rows.{blank}
use Rattle.evidence_rows.specs.Tables.{front, header_rows, record_rows, data_rows}
use Rattle.layout.specs.Rules.{meets, holds}
use Rattle.layout.specs.Judging.{row_tells, judge_by}
use Rattle.evidence.specs.Blocks.{blocks_for, most_blocks}
use Rattle.evidence.specs.Judged.{no_own, length_good}
use Rattle.evidence.specs.Reading.{repeat_told}
use Rattle.evidence_units.specs.Units.{items, said_at, sort_at, evidence_at}
use Rattle.evidence_units.specs.Frames.{frame_good, frame_told, frames_told}
use Rattle.evidence_builder.specs.Units.{place_of, units_in, blocks_to}
use Rattle.evidence_builder.specs.Files.{blanks, marks, institution_of, header_block, record_front, file_of}
use Rattle.evidence_builder.proofs.Written.{marks-length, institution-length}
use Rattle.evidence_writer.specs.Writing.{parts_told, header_told, items_told, length_told, evidence_told, unit_told, record_told, records_told, key_of, keys_told, signed_told, decided, write_told}
use Rattle.evidence_writer.proofs.Ends.{header-institution}
use Rattle.evidence_writer.proofs.Decides.{parts-good}

-- neither 5 nor 6
abbrev pub Never : Answer → Type 0
Never a = (a.number ≡ 5 → ⊥) × (a.number ≡ 6 → ⊥)

-- as a test
abbrev Other : Answer → Type 0
Other a = (not (eqb a.number 5) && not (eqb a.number 6)) ≡ true

never_other : (a : Answer) → Other a → Never a
never_other a t = (λ e. false≢true (rw e at t), λ e. false≢true (rw e at t))

-- one answer after the other, a test, and the first refusal
other-then : (a b : Answer) → Other a → (a.number ≡ 0 → Other b) → Other (a then b)
other-then a b p q =
    ⊎_elim (λ t. rw (then-first a b (refuses-other a t)) p) (λ f. rw (then-second a b (refuses-zero a f)) (q (refuses-zero a f))) (either (refuses a))

other_test : (t : Bool) (a b : Answer) → Other a → Other b → Other (cond t a b)
other_test true a b p q = p
other_test false a b p q = q

other-told : (f : ℕ → Answer) (n : ℕ) → ((i : ℕ) → i < n → Other (f i)) → Other (first_told f n)
other-told f n each = ⊎_elim (λ g. rw g.told refl) (λ b. rw b.1.told (each b.0 b.1.below)) (told f n)

-- rows: each has a code, or holds
module _ (rows : List Row) (rec header : List ℕ) (n : ℕ) where
  other-judged :
      ((i : ℕ) → i < length rows → (holds no_own rec header n (get_or rows i blank) ≡ true) ⊎ (eqb (get_or rows i blank).4 0x30303030 ≡ false)) →
      Other (judge_by no_own rows rec header n)
  unfolding judge_by row_tells
  other-judged each =
      other-told (row_tells no_own rows rec header n) (length rows)
      (λ i h. ⊎_elim (λ t. rw t refl) (λ f. rw f (coded (holds no_own rec header n (get_or rows i blank)) i)) (each i h))
    where
      coded : (t : Bool) (i : ℕ) → Other (cond t accepted (record { side = 0; number = 4; rec = n; item = (get_or rows i blank).0; code = (get_or rows i blank).4 }))
      coded t i = other_test t _ _ refl refl

-- the header's rows have codes
header-other : (header : List ℕ) → Other (header_told header)
unfolding header_told header_rows front
header-other header = other-judged header_rows header header 0 (λ i h. inr (not-true _ (every-at (λ (r : Row). not (eqb r.4 0x30303030)) header_rows refl i blank h)))

-- and of a record's all but row 9
uncoded : Bool → ℕ → Bool
uncoded exempt i = not (eqb i 9) && eqb (get_or (data_rows exempt) i blank).4 0x30303030

rows-coded : (exempt : Bool) → none (uncoded exempt) (length (data_rows exempt)) ≡ true
unfolding record_rows front none least further uncoded
rows-coded true = refl
rows-coded false = refl

-- which finds the header's institution code, as both were written
module _ (date code : List ℕ) (dated : length date ≡ 8) (coded : length code ≡ 10) where
  header-from : (n : ℕ) → part 0 20 (drop 23 (header_block date code n)) ≡ institution_of code
  unfolding part
  header-from n = header-institution date code n dated coded

  record-code : (n : ℕ) (unit : List ℕ) → part 25 20 (record_front code n ++ unit) ≡ institution_of code
  unfolding record_front
  record-code n unit =
      let a = marks 0x32 ++ (digits_of 7 n ++ blanks 10) in
      ap (part 25 20) (simp append_assoc) ∙
      piece-at a (institution_of code) unit 25 20 (simp (length-append, marks-length, digits-length)) (institution-length code coded)

  begins-code : (k n : ℕ) (unit : List ℕ) → begins (part 25 20 (record_front code n ++ unit)) (drop 23 (header_block date code k)) ≡ true
  unfolding begins
  begins-code k n unit = rw (record-code n unit, institution-length code coded) (rw (header-from k) (same_self (institution_of code)))

  code_holds : (exempt : Bool) (k n : ℕ) (unit : List ℕ) → holds no_own (record_front code n ++ unit) (header_block date code k) n (get_or (data_rows exempt) 9 blank) ≡ true
  unfolding record_rows front holds meets
  code_holds true k n unit = begins-code k n unit
  code_holds false k n unit = begins-code k n unit

  items-other : (exempt : Bool) (x : List ℕ) (k p n : ℕ) → Other (items_told exempt (header_block date code k) code x p n)
  unfolding items_told uncoded
  items-other exempt x k p n =
      other-judged (data_rows exempt) (record_front code n ++ part p items x) (header_block date code k) n
      (λ i h. ⊎_elim (λ t. inl (rw (eqb-true i 9 t) (code_holds exempt k n (part p items x)))) (λ f. inr (other i f (none_each (uncoded exempt) (length (data_rows exempt)) (rows-coded exempt) i h))) (either (eqb i 9)))
    where
      other : (i : ℕ) → eqb i 9 ≡ false → uncoded exempt i ≡ false → eqb (get_or (data_rows exempt) i blank).4 0x30303030 ≡ false
      other i f e = rw f at e

  unit-other : (exempt : Bool) (x : List ℕ) (k p b n : ℕ) → Other (unit_told exempt (header_block date code k) code x p b n)
  unfolding unit_told length_told evidence_told
  unit-other exempt x k p b n =
      other_test (leb (p + items) (length x)) _ (refused 2)
      (other-then _ _ (items-other exempt x k p n)
      (λ _. other-then _ _ (other_test (length_good exempt (sort_at x p) (said_at x p)) accepted _ refl refl)
      (λ _. other_test (leb (p + (items + said_at x p)) (length x)) _ (refused 2) (other_test (leb (b + blocks_for (said_at x p)) most_blocks) accepted (refused 3) refl refl) refl)))
      refl

  records-other : (exempt : Bool) (x : List ℕ) (k : ℕ) → Other (records_told exempt (header_block date code k) code x)
  unfolding records_told record_told
  records-other exempt x k =
      other-told (record_told exempt (header_block date code k) code x) (units_in x)
      (λ i h. other_test (eqb i limit) (refused 3) _ refl (unit-other exempt x k (place_of x i) (blocks_to x i) (i + 1)))

-- a frame is told of with 22
signed-other : (x : List ℕ) → Other (signed_told x)
unfolding signed_told frames_told frame_told
signed-other x = other-told (λ i. frame_told x (place_of x i) (i + 1)) (units_in x) (λ i h. other_test (frame_good (sort_at x (place_of x i)) (evidence_at x (place_of x i))) accepted _ refl refl)

-- *Never 5 nor 6*: whatever is given, and in whatever room
pub never-5-or-6 : (exempt : Bool) (date code x : List ℕ) (room : ℕ) → Never (write_told exempt date code x room)
unfolding write_told decided parts_told keys_told repeat_told
never-5-or-6 exempt date code x room =
    let n = units_in x in
    never_other (write_told exempt date code x room)
    (other-then _ _
    (other-then _ _ (other_test (eqb (length date) 8 && eqb (length code) 10) accepted (refused 2) refl refl)
    (λ z. other-then _ _ (header-other (header_block date code n))
    (λ _. other-then _ _ (records-other date code (parts-good date code z).0 (parts-good date code z).1 exempt x n)
    (λ _. other-then _ _ (other_test (ltb (least (repeats_in (key_of x)) n) n) _ accepted refl refl)
    (λ _. signed-other x)))))
    (λ _. other_test (leb (length (file_of date code x)) room) accepted (refused 8) refl refl))
