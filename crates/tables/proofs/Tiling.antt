-- The rows of every record fill it, and so every row lies inside its record.
-- Assumes nothing.
use Prim.Native.Nat.{ℕ, zero, suc, ◌+◌, ◌≤◌, ◌<◌, zero-le}
use mathlib.Core.Bool.{Bool, true, ◌&&◌, ◌||◌}
use mathlib.Core.List.{List, [], ◌∷◌}
use mathlib.Core.Path.{◌≡◌, refl}
use mathlib.Core.Logic.{⊎_elim}
use native.Mathlib.Nat.{le_trans, le_of_eq, le_of_suc-le-suc, not-suc-le-zero}
use native.Mathlib.Omega.{arith}
use borrow.Author.Tests.{eqb-true, leb-true, ltb-true, ltb-false}
use lib.Dec.{eqb, leb, ltb}
use lib.ListN.{length, get_or, get_or-eq_default}
use Rattle.laws.proofs.Bools.{either, and_left, and_right, or_cases}
use Rattle.kinds.specs.declared.of_files.Kind.{Kind}
use Rattle.kinds.specs.declared.of_files.Form.{Form}
use Rattle.kinds.specs.declared.of_files.Role.{Role}
use Rattle.tables.specs.declared.row.Row.{Row}
use Rattle.kinds.specs.Kinds.{fixed_for, fixed_of}
use Rattle.kinds.proofs.Forms.{of-form, of-record}
use Rattle.tables.specs.Rows.{blank, next, tiles_from, tiles}
use Rattle.tables.specs.Tables.{header_front, enrolment_header, debit_header, data_front, enrolment_data, debit_data, enrolment_request_data, enrolment_result_data, debit_request_data, debit_result_data, bank_enrolment_data, trailer_front, enrolment_trailer, enrolment_request_trailer, enrolment_result_trailer, debit_request_trailer, debit_result_trailer, rows_for, rows_of}

-- the computed test, once over all tables
tables-tile : (f : Form) (role : Role) → tiles (fixed_for f).size (rows_for f role) ≡ true
unfolding tiles tiles_from next header_front enrolment_header debit_header data_front enrolment_data debit_data enrolment_request_data enrolment_result_data debit_request_data debit_result_data bank_enrolment_data trailer_front enrolment_trailer enrolment_request_trailer enrolment_result_trailer debit_request_trailer debit_result_trailer
tables-tile = of-record (λ f role. tiles (fixed_for f).size (rows_for f role)) refl

pub rows-tile : (k : Kind) (role : Role) → tiles (fixed_of k).size (rows_of k role) ≡ true
rows-tile k role = tables-tile k.form role

-- a row that comes next ends no earlier
next-end : (r : Row) (item start size : ℕ) → next r item start size ≡ true → start + size ≤ r.1 + r.2
unfolding next
next-end r item start size t = ⊎_elim again on (or_cases here there t)
  where
    here : Bool
    here = eqb r.0 item && (eqb r.1 start && eqb r.2 size)

    there : Bool
    there = (eqb r.0 item || eqb r.0 (item + 1)) && eqb r.1 (start + size)

    again : here ≡ true → start + size ≤ r.1 + r.2
    again a =
        let b = and_right (eqb r.0 item) (eqb r.1 start && eqb r.2 size) a in
        omega (arith, eqb-true r.1 start (and_left (eqb r.1 start) (eqb r.2 size) b), eqb-true r.2 size (and_right (eqb r.1 start) (eqb r.2 size) b))

    on : there ≡ true → start + size ≤ r.1 + r.2
    on a = omega (arith, eqb-true r.1 (start + size) (and_right (eqb r.0 item || eqb r.0 (item + 1)) (eqb r.1 (start + size)) a))

-- so none ends past the whole
tiles-end : (whole item start size : ℕ) (rows : List Row) → tiles_from whole item start size rows ≡ true → start + size ≤ whole
unfolding tiles_from
tiles-end whole item start size [] t = le_of_eq (eqb-true (start + size) whole t)
tiles-end whole item start size (r ∷ rows) t =
    le_trans (next-end r item start size (and_left (next r item start size) (tiles_from whole r.0 r.1 r.2 rows) t))
    (tiles-end whole r.0 r.1 r.2 rows (and_right (next r item start size) (tiles_from whole r.0 r.1 r.2 rows) t))

tiles-inside :
    (whole item start size : ℕ) (rows : List Row) → tiles_from whole item start size rows ≡ true →
    (i : ℕ) → i < length rows → (get_or rows i blank).1 + (get_or rows i blank).2 ≤ whole
unfolding tiles_from
tiles-inside whole item start size [] t i h = absurd (not-suc-le-zero h)
tiles-inside whole item start size (r ∷ rows) t zero h =
    tiles-end whole r.0 r.1 r.2 rows (and_right (next r item start size) (tiles_from whole r.0 r.1 r.2 rows) t)
tiles-inside whole item start size (r ∷ rows) t (suc i) h =
    tiles-inside whole r.0 r.1 r.2 rows (and_right (next r item start size) (tiles_from whole r.0 r.1 r.2 rows) t) i (le_of_suc-le-suc h)

-- every row of every record lies inside it
pub row_inside : (k : Kind) (role : Role) (i : ℕ) → i < length (rows_of k role) → (get_or (rows_of k role) i blank).1 + (get_or (rows_of k role) i blank).2 ≤ (fixed_of k).size
unfolding tiles
row_inside k role i h = tiles-inside (fixed_of k).size 0 0 0 (rows_of k role) (rows-tile k role) i h

-- past the last row too, where a row is blank
pub row_within : (k : Kind) (role : Role) (i : ℕ) → (get_or (rows_of k role) i blank).1 + (get_or (rows_of k role) i blank).2 ≤ (fixed_of k).size
row_within k role i =
    ⊎_elim (λ t. row_inside k role i (ltb-true i (length (rows_of k role)) t))
    (λ f. rw (get_or-eq_default (rows_of k role) blank {n = i} (ltb-false i (length (rows_of k role)) f)) zero-le)
    (either (ltb i (length (rows_of k role))))

-- a record of any form has at least 120 bytes
pub size-least : (k : Kind) → 120 ≤ (fixed_of k).size
size-least k = leb-true 120 (fixed_of k).size (of-form (λ f. leb 120 (fixed_for f).size) refl k.form)
