-- A header, the items 1 to 5 of a record and a trailer whose rows hold are those that are written.
-- Assumes nothing.
use Prim.Native.Nat.{ℕ, ◌+◌, ◌≤◌}
use mathlib.Core.Bool.{Bool, true, false}
use mathlib.Core.List.{List, ◌++◌, append_assoc}
use mathlib.Core.Path.{◌≡◌, refl, ◌∙◌}
use native.Mathlib.Omega.{arith}
use lib.ListN.{length, drop, replicate}
use Rattle.laws.specs.Part.{part}
use Rattle.laws.proofs.Pieces.{piece_then, piece-last, part-two, begins-part}
use Rattle.text.proofs.Classes.{only_part}
use Rattle.numbers.specs.Numbers.{says, digits_of}
use Rattle.numbers.proofs.Values.{says-part}
use Rattle.tables.specs.declared.row.Row.{Row}
use Rattle.tables.specs.declared.row.Class.{Class}
use Rattle.tables.specs.declared.row.Class.TheVariants.{Extension}
use Rattle.tables.specs.Rows.{spaces}
use Rattle.evidence_rows.specs.Tables.{front, header_rows, record_rows, data_rows, trailer_rows}
use Rattle.layout.specs.Rules.{meets, holds}
use Rattle.evidence.specs.Blocks.{block}
use Rattle.evidence.specs.Meets.{RowsHold}
use Rattle.evidence_builder.specs.Files.{marks, institution_of, header_block, record_front, trailer_block}

-- the marks, by the rows with which each record begins
marks_then :
    (mark : ℕ) (more : List Row) (s header rest : List ℕ) (n : ℕ) → 8 ≤ length s → RowsHold (front mark ++ more) s header n →
    drop 8 s ≡ rest → s ≡ marks mark ++ rest
unfolding front holds meets marks
marks_then mark more s header rest n l r e =
    piece_then 0 1 s _ _ (only_part 0x41 0 1 s (omega arith) (r 0 (omega arith)))
    (piece_then 1 1 s _ _ (only_part 0x45 1 1 s (omega arith) (r 1 (omega arith)))
    (piece_then 2 3 s _ _ (only_part 0x31 2 3 s (omega arith) (r 2 (omega arith)))
    (piece_then 5 1 s _ _ (only_part 0x32 5 1 s (omega arith) (r 3 (omega arith)))
    (piece_then 6 2 s _ _ (only_part mark 6 2 s (omega arith) (r 4 (omega arith))) e))))

-- the header's serial and the trailer's are numbers of one digit all along
zeros-say : replicate 7 0x30 ≡ digits_of 7 0
unfolding digits_of
zeros-say = refl

nines-say : replicate 7 0x39 ≡ digits_of 7 9999999
unfolding digits_of
nines-say = refl

module _ (H : List ℕ) (long : length H ≡ block) (r : RowsHold header_rows H H 0) where
  -- the institution code in 20 bytes
  pub institution-is : part 23 20 H ≡ institution_of (part 23 10 H)
  unfolding header_rows front holds meets institution_of
  institution-is = part-two 23 10 10 H ∙ rw (only_part 0x20 33 10 H (omega (arith, long)) (r 8 (omega arith)))

  pub header_is : (n : ℕ) → says (part 43 7 H) n ≡ true → H ≡ header_block (part 15 8 H) (part 23 10 H) n
  unfolding header_rows front holds meets header_block
  header_is n c =
      marks_then 0x31 (drop 5 header_rows) H H _ 0 (omega (arith, long)) r
      (piece_then 8 7 H _ _ (only_part 0x30 8 7 H (omega (arith, long)) (r 5 (omega arith)) ∙ zeros-say)
      (piece_then 15 8 H _ _ refl
      (piece_then 23 20 H _ _ institution-is
      (piece_then 43 7 H _ _ (says-part n 43 7 H (omega (arith, long)) c)
      (piece-last 50 974 H _ long (only_part 0x20 50 974 H (omega (arith, long)) (r 10 (omega arith))))))))

-- items 1 to 5 of record n
record-rows-front :
    (class : Class) (s header code : List ℕ) (n : ℕ) → 45 ≤ length s → RowsHold (record_rows class) s header n → part 23 20 header ≡ institution_of code →
    s ≡ record_front code n ++ drop 45 s
unfolding record_rows front holds meets record_front
record-rows-front class s header code n l r e =
    marks_then 0x32 (drop 5 (record_rows class)) s header _ n (omega arith) r
    (piece_then 8 7 s _ _ (says-part n 8 7 s (omega arith) (r 5 (omega arith)))
    (piece_then 15 10 s _ _ (only_part 0x20 15 10 s (omega arith) (r 6 (omega arith)))
    (piece_then 25 20 s _ _ (begins-part 25 20 23 s header (omega arith) (r 9 (omega arith)) ∙ e) refl))) ∙
    simp append_assoc

pub front-is :
    (exempt : Bool) (s header code : List ℕ) (n : ℕ) → 45 ≤ length s → RowsHold (data_rows exempt) s header n → part 23 20 header ≡ institution_of code →
    s ≡ record_front code n ++ drop 45 s
front-is true = record-rows-front spaces
front-is false = record-rows-front Extension

pub trailer-is :
    (T header code : List ℕ) (n blocks : ℕ) → length T ≡ block → RowsHold trailer_rows T header (n + 1) → part 23 20 header ≡ institution_of code →
    says (part 35 7 T) n ≡ true → says (part 42 10 T) blocks ≡ true → T ≡ trailer_block code n blocks
unfolding trailer_rows front holds meets trailer_block
trailer-is T header code n blocks l r e c b =
    marks_then 0x33 (drop 5 trailer_rows) T header _ (n + 1) (omega arith) r
    (piece_then 8 7 T _ _ (only_part 0x39 8 7 T (omega arith) (r 5 (omega arith)) ∙ nines-say)
    (piece_then 15 20 T _ _ (begins-part 15 20 23 T header (omega arith) (r 8 (omega arith)) ∙ e)
    (piece_then 35 7 T _ _ (says-part n 35 7 T (omega arith) c)
    (piece_then 42 10 T _ _ (says-part blocks 42 10 T (omega arith) b)
    (piece-last 52 972 T _ l (only_part 0x20 52 972 T (omega arith) (r 11 (omega arith))))))))
