-- No proper prefix of an accepted file is accepted as the same kind: its last record would have to be a trailer, and is data.
-- Assumes nothing.
use Prim.Native.Nat.{ℕ, ◌+◌, ◌-◌, ◌*◌, ◌≤◌, ◌<◌}
use mathlib.Core.Bool.{true}
use mathlib.Core.List.{List}
use mathlib.Core.Path.{◌≡◌, sym, ◌∙◌, ap}
use native.Mathlib.Nat.{le_antisymm, le_trans, lt_of_mul-lt-mul_right}
use native.Mathlib.Omega.{arith}
use lib.ListN.{length, get_or, take}
use lib.Seq.{length-take-le}
use Rattle.laws.specs.Part.{part}
use Rattle.laws.proofs.Parts.{part_length, part_at, part-take}
use Rattle.text.proofs.Classes.{within_low, within-high, each_at}
use Rattle.kinds.specs.declared.of_files.Kind.{Kind}
use Rattle.kinds.specs.declared.of_files.Own.{Own}
use Rattle.kinds.specs.declared.of_files.Role.TheVariants.{Data, Trailer}
use Rattle.tables.specs.declared.row.Row.{Row}
use Rattle.kinds.specs.Kinds.{fixed_of}
use Rattle.tables.specs.Rows.{row, only, blank}
use Rattle.tables.specs.Tables.{data_front, trailer_front, rows_of}
use Rattle.tables.proofs.Fronts.{front-row, front-some}
use Rattle.tables.proofs.Tiling.{size-least}
use Rattle.answers.specs.Answers.{accepted}
use Rattle.layout.specs.Rules.{meets, holds}
use Rattle.records.specs.Records.{record_at, record_of, count_of}
use Rattle.reader.specs.Reading.{read_as}
use Rattle.reader.proofs.Roles.{role-data, role-trailer}
use Rattle.reader.specs.Meets.{Meets}
use Rattle.records.proofs.Places.{record-inside}
use Rattle.reader.proofs.Exact.{read-exact}

-- the first row of a data record and of a trailer, of every kind, is its mark
data-first : (k : Kind) → get_or (rows_of k Data) 0 blank ≡ row 1 0 1 (only 0x52) 0x30303831
unfolding data_front
data-first k = front-row k Data 0 (omega arith)

data-some : (k : Kind) → 0 < length (rows_of k Data)
unfolding data_front
data-some k = front-some k Data 0 (omega arith)

trailer-first : (k : Kind) → get_or (rows_of k Trailer) 0 blank ≡ row 1 0 1 (only 0x54) 0x30303831
unfolding trailer_front
trailer-first k = front-row k Trailer 0 (omega arith)

trailer-some : (k : Kind) → 0 < length (rows_of k Trailer)
unfolding trailer_front
trailer-some k = front-some k Trailer 0 (omega arith)

-- a mark that holds is the record's first byte
mark-byte : (o : Own) (rec header : List ℕ) (n b code : ℕ) (r : Row) → r ≡ row 1 0 1 (only b) code → 1 ≤ length rec → holds o rec header n r ≡ true → get_or rec 0 0 ≡ b
unfolding holds meets
mark-byte o rec header n b code r e l h =
    let t = each_at b b (part 0 1 rec) (rw e at h) 0 (rw (part_length 0 1 rec l) (omega arith)) in
    let a : get_or (part 0 1 rec) 0 0 ≡ b = le_antisymm (within-high b b _ t) (within_low b b _ t) in
    sym (part_at 0 1 rec 0 (omega arith)) ∙ a

module _ (k : Kind) (s : List ℕ) (m : Meets k s) where
  -- record i has the kind's size
  pub record-length : (i : ℕ) → i < count_of k s → length (record_of k s i) ≡ (fixed_of k).size
  unfolding record_at
  record-length i h = part_length (i * (fixed_of k).size) (fixed_of k).size s (record-inside k s i h)

  -- a data record begins with "R", the trailer with "T"
  pub data-mark : (i : ℕ) → 0 < i → i + 1 < count_of k s → get_or (record_of k s i) 0 0 ≡ 0x52
  data-mark i p h =
      let role = role-data (count_of k s) i p h in
      mark-byte k.own (record_of k s i) (record_of k s 0) i 0x52 0x30303831 (get_or (rows_of k Data) 0 blank) (data-first k)
      (omega (arith, size-least k, record-length i (omega arith)))
      (rw role at (m.rows i (omega arith) 0 (rw role (data-some k))))

  pub trailer-mark : (i : ℕ) → 0 < i → i + 1 ≡ count_of k s → get_or (record_of k s i) 0 0 ≡ 0x54
  trailer-mark i p e =
      let role = role-trailer (count_of k s) i p e in
      mark-byte k.own (record_of k s i) (record_of k s 0) i 0x54 0x30303831 (get_or (rows_of k Trailer) 0 blank) (trailer-first k)
      (omega (arith, size-least k, record-length i (omega arith)))
      (rw role at (m.rows i (omega arith) 0 (rw role (trailer-some k))))

-- *Cut short*
pub cut_short : (k : Kind) (s : List ℕ) (m : ℕ) → m < length s → read_as k s ≡ accepted → read_as k (take m s) ≡ accepted → ⊥
unfolding record_at
cut_short k s m h a b =
    let whole = (read-exact k s).0 a in
    let cut = (read-exact k t).0 b in
    let long : length t ≡ m = length-take-le m s (omega arith) in
    let n = count_of k t in
    let less : n < count_of k s = lt_of_mul-lt-mul_right (fixed_of k).size (omega (arith, whole.lengths.whole, cut.lengths.whole)) in
    let inside : (n - 1) * (fixed_of k).size + (fixed_of k).size ≤ m = le_trans (record-inside k t (n - 1) (omega (arith, cut.lengths.fewest))) (omega arith) in
    let r = trailer-mark k t cut (n - 1) (omega (arith, cut.lengths.fewest)) (omega (arith, cut.lengths.fewest)) in
    let d = data-mark k s whole (n - 1) (omega (arith, cut.lengths.fewest)) (omega (arith, cut.lengths.fewest)) in
    let e : ◌≡◌ {A = ℕ} 0x54 0x52 = sym r ∙ (ap (λ (x : List ℕ). get_or x 0 0) (part-take ((n - 1) * (fixed_of k).size) (fixed_of k).size m s inside (omega arith)) ∙ d) in
    omega arith
  where
    t : List ℕ
    t = take m s
