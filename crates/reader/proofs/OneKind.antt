-- A file's name says its kind: no file is accepted as two kinds, and another kind of its form refuses it by its name.
-- Assumes nothing.
use Prim.Native.Nat.{ℕ, zero, suc, ◌+◌, ◌*◌, ◌<◌}
use mathlib.Core.Bool.{true, false}
use mathlib.Core.List.{List}
use mathlib.Core.Path.{◌≡◌, sym, ◌∙◌, ap}
use native.Mathlib.Nat.{zero-mul}
use native.Mathlib.Omega.{arith}
use borrow.Author.Tests.{eqb-true, ne_eqb}
use lib.ListN.{length, get_or}
use Rattle.laws.specs.Part.{part}
use Rattle.laws.proofs.Parts.{part-part}
use Rattle.numbers.specs.Numbers.{word_of}
use Rattle.kinds.specs.declared.of_files.Form.{Form}
use Rattle.kinds.specs.declared.of_files.Own.{Own}
use Rattle.kinds.specs.declared.of_files.Kind.{Kind}
use Rattle.std.specs.Prelude.{Some}
use Rattle.kinds.specs.declared.of_files.Role.TheVariants.{Header}
use Rattle.kinds.specs.Kinds.{kind, fixed_of, kind_of}
use Rattle.tables.specs.Rows.{blank}
use Rattle.tables.specs.Tables.{header_front, rows_of}
use Rattle.tables.proofs.Fronts.{front-row, front-some}
use Rattle.kinds.proofs.Known.{one_name}
use Rattle.tables.proofs.Tiling.{size-least}
use Rattle.answers.specs.Answers.{refused_at}
use Rattle.answers.proofs.Refusals.{number_of, then-first, so_far, told-stop}
use Rattle.layout.specs.Rules.{meets, holds}
use Rattle.layout.specs.Judging.{broken_at, row_tells, judge_of}
use Rattle.layout.proofs.Judged.{row-good, judge-stop}
use Rattle.records.specs.Records.{record_of, record_at, count_of}
use Rattle.records.proofs.Places.{record-inside}
use Rattle.reader.specs.Judged.{role_of, judged_at, records_tell}
use Rattle.reader.specs.Reading.{read_as}
use Rattle.reader.specs.Meets.{Lengths, Meets}
use Rattle.reader.proofs.Exact.{after-length}

-- row j of the header of an accepted file holds
pub header_row :
    (k : Kind) (s : List ℕ) → Meets k s → (j : ℕ) → j < length (rows_of k Header) →
    holds k.own (record_of k s 0) (record_of k s 0) 0 (get_or (rows_of k Header) j blank) ≡ true
unfolding role_of
header_row k s m j l = m.rows 0 (omega (arith, m.lengths.fewest)) j l

-- the row of the name's letters is the same in every header
name-row : (k : Kind) (s : List ℕ) → Meets k s → word_of (part 19 4 (record_of k s 0)) ≡ k.own.name
unfolding holds meets header_front
name-row k s m = eqb-true _ k.own.name (rw (front-row k Header 3 (omega arith)) at (header_row k s m 3 (front-some k Header 3 (omega arith))))

-- and stands at the same bytes of the file
pub name-says : (k : Kind) (s : List ℕ) → Meets k s → word_of (part 19 4 s) ≡ k.own.name
unfolding record_at
name-says k s m =
    let front : 0 * (fixed_of k).size + 19 ≡ 19 = rw zero-mul in
    let inside = record-inside k s 0 (omega (arith, m.lengths.fewest)) in
    let record-name = part-part 19 4 (0 * (fixed_of k).size) (fixed_of k).size s (omega (arith, size-least k)) inside in
    ap word_of (ap (λ (start : ℕ). part start 4 s) (sym front) ∙ sym record-name) ∙ name-row k s m

-- *One kind*: a file that is accepted as the kind of one number is accepted as that of no other
pub one-kind : (m n : ℕ) (k l : Kind) → kind_of m ≡ Some k → kind_of n ≡ Some l → (s : List ℕ) → Meets k s → Meets l s → k ≡ l
one-kind m n k l a b s p q = one_name m n k l a b (sym (name-says k s p) ∙ name-says l s q)

bad : {n : ℕ} → n ≡ 5 → n ≡ 0 → ⊥
bad e z = omega arith

-- a file of one kind, read as another of its form
module _ (f : Form) (o p : Own) (s : List ℕ) (m : Meets (kind f o) s) where
  abbrev mine : Kind
  mine = kind f o

  abbrev other : Kind
  other = kind f p

  abbrev header : List ℕ
  header = record_of other s 0

  -- is as long as it must be
  other-lengths : Lengths other s
  unfolding count_of
  other-lengths = record { whole = m.lengths.whole; fewest = m.lengths.fewest; most = m.lengths.most }

  -- the rows before that of the name's letters ask nothing of a kind's own
  same-before : (j : ℕ) → j < 3 → holds o header header 0 (get_or header_front j blank) ≡ true → holds p header header 0 (get_or header_front j blank) ≡ true
  unfolding holds meets header_front
  same-before zero h t = t
  same-before (suc zero) h t = t
  same-before (suc (suc zero)) h t = t
  same-before (suc (suc (suc j))) h t = absurd (omega arith)

  before-name : (j : ℕ) → j < 3 → holds p header header 0 (get_or (rows_of other Header) j blank) ≡ true
  unfolding header_front
  before-name j h =
      rw (front-row other Header j (omega arith))
      (same-before j h (rw (front-row mine Header j (omega arith)) at (header_row mine s m j (front-some mine Header j (omega arith)))))

  module _ (ne : o.name ≡ p.name → ⊥) where
    -- that of the name does not hold
    name-fails : holds p header header 0 (get_or (rows_of other Header) 3 blank) ≡ false
    unfolding holds meets header_front
    name-fails = rw (front-row other Header 3 (omega arith)) (ne_eqb _ p.name (λ e. ne (sym (name-row mine s m) ∙ e)))

    header-told : judged_at other s 0 ≡ refused_at 5 0 4 0x30303030
    unfolding judged_at judge_of role_of header_front
    header-told =
        let rows = rows_of other Header in
        judge-stop p rows header header 0 3 (front-some other Header 3 (omega arith))
        (so_far (row_tells p rows header header 0) 3 (λ j h. row-good p rows header header 0 j (before-name j h))) name-fails ∙
        ap (broken_at 0) (front-row other Header 3 (omega arith))

    records-told : records_tell other s ≡ refused_at 5 0 4 0x30303030
    unfolding records_tell
    records-told =
        told-stop (judged_at other s) 0 (count_of other s) (omega (arith, other-lengths.fewest)) (so_far (judged_at other s) 0 (λ i h. absurd (omega arith)))
        (bad (number_of header-told)) ∙ header-told

    -- *Another name*: it is told that item 4 of its header disagrees
    pub other_name_lem : read_as other s ≡ refused_at 5 0 4 0x30303030
    other_name_lem =
        after-length other s other-lengths ∙ (then-first (records_tell other s) _ (bad (number_of records-told)) ∙ records-told)
