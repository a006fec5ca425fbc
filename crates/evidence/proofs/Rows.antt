-- The rows of an evidence file are such that its blocks can be judged by them.
-- Assumes nothing.
use Prim.Native.Nat.{ℕ, zero, suc, ◌+◌, ◌≤◌, zero-le}
use mathlib.Core.Bool.{Bool, true, false, ◌&&◌}
use mathlib.Core.List.{List, [], ◌∷◌}
use mathlib.Core.Path.{◌≡◌, refl}
use native.Mathlib.Nat.{le_trans}
use borrow.Author.Tests.{leb-true}
use lib.Dec.{leb}
use lib.ListN.{length, get_or}
use Rattle.laws.proofs.Bools.{and_left, and_right}
use Rattle.laws.proofs.Every.{every}
use Rattle.tables.specs.declared.row.Row.{Row}
use Rattle.tables.specs.Rows.{blank}
use Rattle.evidence_rows.specs.Tables.{front, header_rows, record_rows, data_rows, trailer_rows}

-- the row lies within the first w bytes
abbrev lies : ℕ → Row → Bool
lies w r = leb (r.1 + r.2) w

-- a table for w bytes: enough of them, and each row within them
abbrev pub fits : ℕ → List Row → Bool
fits w table = leb 55 w && every (lies w) table

pub header-fits : fits 1024 header_rows ≡ true
unfolding header_rows front
header-fits = refl

pub data-fits : (exempt : Bool) → fits 119 (data_rows exempt) ≡ true
unfolding record_rows front
data-fits true = refl
data-fits false = refl

pub trailer-fits : fits 1024 trailer_rows ≡ true
unfolding trailer_rows front
trailer-fits = refl

-- past the end a row is blank, and lies within any bytes
lies_at : (w : ℕ) (rows : List Row) → every (lies w) rows ≡ true → (i : ℕ) → (get_or rows i blank).1 + (get_or rows i blank).2 ≤ w
lies_at w [] t i = zero-le
lies_at w (r ∷ rows) t zero = leb-true (r.1 + r.2) w (and_left (lies w r) (every (lies w) rows) t)
lies_at w (r ∷ rows) t (suc i) = lies_at w rows (and_right (lies w r) (every (lies w) rows) t) i

-- a record and a header can be judged by these rows
pub record Judges (rows : List Row) (rec header : List ℕ) : Type 0 where
  pub of_rec : (i : ℕ) → (get_or rows i blank).1 + (get_or rows i blank).2 ≤ length rec
  pub of_header : (i : ℕ) → (get_or rows i blank).1 + (get_or rows i blank).2 ≤ length header
  pub rec_long : 55 ≤ length rec
  pub header_long : 55 ≤ length header

-- any that are as long as the table says can
pub table-serves :
    (w : ℕ) (rows table : List Row) → rows ≡ table → fits w table ≡ true → (rec header : List ℕ) → w ≤ length rec → w ≤ length header →
    Judges rows rec header
table-serves w rows table e fit rec header r h =
    let inside = lies_at w table (and_right (leb 55 w) (every (lies w) table) fit) in
    let enough = leb-true 55 w (and_left (leb 55 w) (every (lies w) table) fit) in
    rw e (record {
      of_rec = λ i. le_trans (inside i) r;
      of_header = λ i. le_trans (inside i) h;
      rec_long = le_trans enough r;
      header_long = le_trans enough h;
    })
