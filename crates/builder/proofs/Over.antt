-- The row over a place of a record: each place has one, and it is the row whose places these are.
-- Assumes nothing.
use Prim.Native.Nat.{ℕ, zero, suc, ◌+◌, ◌-◌, ◌≤◌, ◌<◌, zero-le}
use mathlib.Core.Bool.{Bool, true, false, ◌&&◌, ◌||◌}
use mathlib.Core.List.{List, [], ◌∷◌}
use mathlib.Core.Path.{◌≡◌, refl, ap, sym, ◌∙◌}
use mathlib.Core.Logic.{⊎_elim}
use native.Mathlib.Nat.{le-add_right}
use native.Mathlib.Omega.{arith}
use borrow.Author.Tests.{leb-true, ltb-true, le-leb, lt-ltb, le-ltb, ltb-false, eqb-true}
use lib.Dec.{leb, ltb, eqb}
use lib.ListN.{length, get_or}
use Rattle.laws.specs.Least.{further, least, none}
use Rattle.laws.proofs.Bools.{and_left, and_right, or_cases, either}
use Rattle.laws.proofs.Leasts.{least-is, least-none, least-some, least-stop, none_each}
use Rattle.kinds.specs.declared.of_files.Kind.{Kind}
use Rattle.kinds.specs.declared.of_files.Role.{Role}
use Rattle.kinds.specs.declared.of_files.Role.TheVariants.{Data}
use Rattle.tables.specs.declared.row.Row.{Row}
use Rattle.kinds.specs.Kinds.{fixed_of}
use Rattle.tables.specs.Rows.{blank, next, tiles_from, tiles}
use Rattle.tables.specs.Tables.{data_front, enrolment_data, debit_data, enrolment_request_data, enrolment_result_data, debit_request_data, debit_result_data, bank_enrolment_data, rows_for, rows_of}
use Rattle.tables.proofs.Fronts.{front-row}
use Rattle.kinds.proofs.Forms.{of-form}
use Rattle.tables.proofs.Tiling.{rows-tile}
use Rattle.std.specs.List.{find}
use Rattle.std.specs.Option.{unwrap_or}
use Rattle.std.specs.Prelude.{Option}
use Rattle.std.proofs.lemmas.Option.{unwrap_or-slice_get}
use Rattle.laws.proofs.Positions.{find_least}
use Rattle.builder.specs.Bytes.{over_row, over, row_over}
use Rattle.builder.proofs.Rows.{row-small}

-- a row is over the places from its start to its end
pub over-if : (r : Row) (j : ℕ) → r.1 ≤ j → j < r.1 + r.2 → over_row r j ≡ true
unfolding over_row
over-if r j a b = rw (le-leb r.1 j a, lt-ltb j (r.1 + r.2) b)

pub over-low : (r : Row) (j : ℕ) → over_row r j ≡ true → r.1 ≤ j
unfolding over_row
over-low r j t = leb-true r.1 j (and_left (leb r.1 j) (ltb j (r.1 + r.2)) t)

pub over-high : (r : Row) (j : ℕ) → over_row r j ≡ true → j < r.1 + r.2
unfolding over_row
over-high r j t = ltb-true j (r.1 + r.2) (and_right (leb r.1 j) (ltb j (r.1 + r.2)) t)

over-past : (r : Row) (j : ℕ) → r.1 + r.2 ≤ j → over_row r j ≡ false
unfolding over_row
over-past r j h = rw (le-ltb j (r.1 + r.2) h) (and-false (leb r.1 j))
  where
    and-false : (a : Bool) → (a && false) ≡ false
    and-false true = refl
    and-false false = refl

-- rows that fill a record have one over each place
abbrev SomeOver : List Row → ℕ → Type 0
SomeOver rows j = (i : ℕ) × (i < length rows) × (over_row (get_or rows i blank) j ≡ true)

next_low : (r : Row) (item start size j : ℕ) → next r item start size ≡ true → start + size ≤ j → j < r.1 + r.2 → r.1 ≤ j
unfolding next
next_low r item start size j t a b = ⊎_elim again on (or_cases here there t)
  where
    here : Bool
    here = eqb r.0 item && (eqb r.1 start && eqb r.2 size)

    there : Bool
    there = (eqb r.0 item || eqb r.0 (item + 1)) && eqb r.1 (start + size)

    again : here ≡ true → r.1 ≤ j
    again t = omega (arith, eqb-true r.1 start (and_left (eqb r.1 start) (eqb r.2 size) (and_right (eqb r.0 item) _ t)))

    on : there ≡ true → r.1 ≤ j
    on t = omega (arith, eqb-true r.1 (start + size) (and_right (eqb r.0 item || eqb r.0 (item + 1)) (eqb r.1 (start + size)) t))

tiles-over :
    (whole item start size : ℕ) (rows : List Row) → tiles_from whole item start size rows ≡ true →
    (j : ℕ) → start + size ≤ j → j < whole → SomeOver rows j
unfolding tiles_from
tiles-over whole item start size [] t j a b = absurd (omega (arith, eqb-true (start + size) whole t))
tiles-over whole item start size (r ∷ rows) t j a b =
    ⊎_elim
    (λ l. let h : j < r.1 + r.2 = ltb-true j (r.1 + r.2) l in
    (0, omega arith, over-if r j (next_low r item start size j (and_left (next r item start size) _ t) a h) h))
    (λ l. let o = tiles-over whole r.0 r.1 r.2 rows (and_right (next r item start size) _ t) j (ltb-false j (r.1 + r.2) l) b in
    (suc o.0, omega (arith, o.1), o.2))
    (either (ltb j (r.1 + r.2)))

-- the row over a place of a record is one of its rows, and the place is one of the row's
pub record Over (rows : List Row) (j i : ℕ) : Type 0 where
  pub inside : i < length rows
  pub is : row_over rows j ≡ get_or rows i blank
  pub low : (get_or rows i blank).1 ≤ j
  pub high : j < (get_or rows i blank).1 + (get_or rows i blank).2

pub row-over : (k : Kind) (role : Role) (j : ℕ) → j < (fixed_of k).size → (i : ℕ) × Over (rows_of k role) j i
unfolding tiles row_over over
row-over k role j h =
    let rows = rows_of k role in
    let o = tiles-over (fixed_of k).size 0 0 0 rows (rows-tile k role) j zero-le h in
    let i = least (over rows j) (length rows) in
    let l : i < length rows = least-some (over rows j) (length rows) o.0 o.1 o.2 in
    let t = (least-is (over rows j) (length rows)).holds l in
    (i, record { inside = l; is = refl; low = over-low (get_or rows i blank) j t; high = over-high (get_or rows i blank) j t })

-- row m ends past the start of row i
unfoldable pub ends_past : List Row → ℕ → ℕ → Bool
ends_past rows i m = ltb (get_or rows i blank).1 ((get_or rows m blank).1 + (get_or rows m blank).2)

-- row i is a row, and those before it end before it
unfoldable pub starts : List Row → ℕ → Bool
starts rows i = ltb i (length rows) && none (ends_past rows i) i

-- such a row is the one over its places
pub starts-over :
    (rows : List Row) (i d : ℕ) → starts rows i ≡ true → d < (get_or rows i blank).2 → row_over rows ((get_or rows i blank).1 + d) ≡ get_or rows i blank
unfolding starts ends_past row_over over
starts-over rows i d t h =
    let j = (get_or rows i blank).1 + d in
    let below : i < length rows = ltb-true i (length rows) (and_left (ltb i (length rows)) (none (ends_past rows i) i) t) in
    let before = none_each (ends_past rows i) i (and_right (ltb i (length rows)) (none (ends_past rows i) i) t) in
    ap (λ (m : ℕ). get_or rows m blank)
    (least-stop (over rows j) i (length rows) below
    (least-none (over rows j) i (λ m l. over-past (get_or rows m blank) j (omega (arith, ltb-false (get_or rows i blank).1 ((get_or rows m blank).1 + (get_or rows m blank).2) (before m l)))))
    (over-if (get_or rows i blank) j (le-add_right (get_or rows i blank).1 d) (omega arith)))

-- so it is wherever it stands between
over-of :
    (rows : List Row) (i j : ℕ) (r : Row) → starts rows i ≡ true → get_or rows i blank ≡ r → r.1 ≤ j → j < r.1 + r.2 → row_over rows j ≡ r
over-of rows i j r t e a b =
    ap (row_over rows) place ∙ (starts-over rows i (j - (get_or rows i blank).1) t (rw e (omega arith)) ∙ e)
  where
    place : j ≡ (get_or rows i blank).1 + (j - (get_or rows i blank).1)
    place = rw e (omega arith)

-- the rows of items 1 to 3 begin one after the other in each form
front-starts : (k : Kind) (i : ℕ) → i < 3 → starts (rows_of k Data) i ≡ true
unfolding starts ends_past none least further enrolment_request_data enrolment_result_data enrolment_data debit_request_data debit_result_data bank_enrolment_data debit_data data_front
front-starts k zero h = of-form (λ f. starts (rows_for f Data) 0) refl k.form
front-starts k (suc zero) h = of-form (λ f. starts (rows_for f Data) 1) refl k.form
front-starts k (suc (suc zero)) h = of-form (λ f. starts (rows_for f Data) 2) refl k.form
front-starts k (suc (suc (suc i))) h = absurd (omega arith)

-- so they are over their places
pub front-first : (k : Kind) (j : ℕ) → j < 1 → get_or data_front 0 blank ≡ row_over (rows_of k Data) j
unfolding data_front
front-first k j h = sym (over-of (rows_of k Data) 0 j (get_or data_front 0 blank) (front-starts k 0 (omega arith)) (front-row k Data 0 (omega arith)) (omega arith) h)

pub front-second : (k : Kind) (j : ℕ) → 1 ≤ j → j < 9 → get_or data_front 1 blank ≡ row_over (rows_of k Data) j
unfolding data_front
front-second k j g h = sym (over-of (rows_of k Data) 1 j (get_or data_front 1 blank) (front-starts k 1 (omega arith)) (front-row k Data 1 (omega arith)) g h)

pub front-third : (k : Kind) (j : ℕ) → 9 ≤ j → j < 19 → get_or data_front 2 blank ≡ row_over (rows_of k Data) j
unfolding data_front
front-third k j g h = sym (over-of (rows_of k Data) 2 j (get_or data_front 2 blank) (front-starts k 2 (omega arith)) (front-row k Data 2 (omega arith)) g h)

-- it is small
pub over-small : (k : Kind) (role : Role) (j : ℕ) → (row_over (rows_of k role) j).1 + (row_over (rows_of k role) j).2 < 1000
unfolding row_over
over-small k role j = row-small k role _

-- it is the one that `find` finds
pub over-is :
    (k : Kind) (role : Role) (j : ℕ) (rows : List Row) (r : Option Row) → rows ≡ rows_of k role → r ≡ find (λ r. over_row r j) rows →
    unwrap_or r blank ≡ row_over (rows_of k role) j
unfolding row_over over
over-is k role j rows r of found =
    rw (found, find_least (λ r. over_row r j) rows blank, of) (unwrap_or-slice_get (rows_of k role) (least (λ i. over_row (get_or (rows_of k role) i blank) j) (length (rows_of k role))) blank)
