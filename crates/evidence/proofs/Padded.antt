-- The rows of an evidence file laid out over as many places as the longest table has: blocks can be judged by them, and they tell what they tell.
-- No code lays a table out any more. Assumes nothing.
use Prim.Native.Nat.{ℕ, zero, suc, ◌+◌, ◌≤◌, zero-le}
use mathlib.Core.Bool.{Bool, true, false, ◌&&◌}
use mathlib.Core.List.{List, [], ◌∷◌}
use mathlib.Core.Path.{◌≡◌, refl, ◌∙◌}
use native.Mathlib.Nat.{le_trans}
use borrow.Author.Tests.{leb-true}
use lib.Dec.{leb}
use lib.ListN.{length, get_or}
use Rattle.laws.proofs.Bools.{and_left, and_right}
use Rattle.laws.proofs.Every.{every}
use Rattle.answers.specs.declared.told.Answer.{Answer}
use Rattle.tables.specs.declared.row.Row.{Row}
use Rattle.tables.specs.Rows.{blank}
use Rattle.rows.specs.Laid.{laid, most, laid_out}
use Rattle.layout.specs.Judging.{judge_by}
use Rattle.layout.proofs.Padded.{judge-laid}
use Rattle.evidence_rows.specs.Tables.{front, header_rows, record_rows, data_rows, trailer_rows}
use Rattle.evidence.specs.Judged.{no_own}

-- the row lies within the first w bytes
abbrev lies : ℕ → Row → Bool
lies w r = leb (r.1 + r.2) w

-- a table for w bytes: enough of them, no more rows than places, and each row, laid out, within them
abbrev pub fits : ℕ → List Row → Bool
fits w table = leb 55 w && (leb (length table) most && every (lies w) (laid_out table))

pub header-fits : fits 1024 header_rows ≡ true
unfolding laid_out laid header_rows front
header-fits = refl

pub data-fits : (exempt : Bool) → fits 119 (data_rows exempt) ≡ true
unfolding laid_out laid record_rows front
data-fits true = refl
data-fits false = refl

pub trailer-fits : fits 1024 trailer_rows ≡ true
unfolding laid_out laid trailer_rows front
trailer-fits = refl

-- rows past the end are blank, and lie within any bytes
lies_at : (w : ℕ) (rows : List Row) → every (lies w) rows ≡ true → (i : ℕ) → (get_or rows i blank).1 + (get_or rows i blank).2 ≤ w
lies_at w [] t i = zero-le
lies_at w (r ∷ rows) t zero = leb-true (r.1 + r.2) w (and_left (lies w r) (every (lies w) rows) t)
lies_at w (r ∷ rows) t (suc i) = lies_at w rows (and_right (lies w r) (every (lies w) rows) t) i

module _ (w : ℕ) (table rows : List Row) (fit : fits w table ≡ true) (laid_as : rows ≡ laid_out table) where
  rest : (leb (length table) most && every (lies w) (laid_out table)) ≡ true
  rest = and_right (leb 55 w) (leb (length table) most && every (lies w) (laid_out table)) fit

  row_inside : (i : ℕ) → (get_or rows i blank).1 + (get_or rows i blank).2 ≤ w
  row_inside i = rw laid_as (lies_at w (laid_out table) (and_right (leb (length table) most) (every (lies w) (laid_out table)) rest) i)

  enough : 55 ≤ w
  enough = leb-true 55 w (and_left (leb 55 w) (leb (length table) most && every (lies w) (laid_out table)) fit)

  -- any record and header that are as long can be judged by the table laid out
  pub table-judges :
      (rec header : List ℕ) → w ≤ length rec → w ≤ length header →
      ((i : ℕ) → (get_or rows i blank).1 + (get_or rows i blank).2 ≤ length rec) ×
      (((i : ℕ) → (get_or rows i blank).1 + (get_or rows i blank).2 ≤ length header) × ((55 ≤ length rec) × (55 ≤ length header)))
  table-judges rec header r h = (λ i. le_trans (row_inside i) r, (λ i. le_trans (row_inside i) h, (le_trans enough r, le_trans enough h)))

  -- and what it tells is what the table tells
  pub table-tells : (answer : Answer) (rec header : List ℕ) (n : ℕ) → answer ≡ judge_by no_own rows rec header n → answer ≡ judge_by no_own table rec header n
  table-tells answer rec header n e =
      let few = leb-true (length table) most (and_left (leb (length table) most) (every (lies w) (laid_out table)) rest) in
      e ∙ rw laid_as (judge-laid no_own rec header n table few)
