-- The laws of `laid_out`: blank rows behind a table change no search, and no record has more rows than places.
-- No code lays a table out any more. Assumes nothing.
use Prim.Native.Nat.{ℕ, zero, suc, ◌+◌, ◌≤◌, ◌<◌, zero-le}
use mathlib.Core.Bool.{Bool, true}
use mathlib.Core.List.{List, [], ◌∷◌}
use mathlib.Core.Logic.{⊎_elim}
use mathlib.Core.Path.{◌≡◌, refl, ap}
use native.Mathlib.Nat.{le_refl, le_of_suc-le-suc, not-suc-le-zero, eq-or-lt_of_le}
use native.Mathlib.Omega.{arith}
use borrow.Author.Tests.{ltb-true, ltb-false, leb-true}
use lib.Dec.{leb, ltb}
use lib.ListN.{length, get_or, get_or-eq_default}
use Rattle.laws.specs.Least.{least}
use Rattle.laws.proofs.Bools.{either, clash}
use Rattle.laws.proofs.Leasts.{Least, least-is, least-only, least-same}
use Rattle.kinds.specs.declared.of_files.Kind.{Kind}
use Rattle.kinds.specs.declared.of_files.Form.{Form}
use Rattle.kinds.specs.declared.of_files.Role.{Role}
use Rattle.tables.specs.declared.row.Row.{Row}
use Rattle.kinds.specs.Kinds.{fixed_of}
use Rattle.kinds.proofs.Forms.{of-record}
use Rattle.tables.specs.Rows.{blank}
use Rattle.tables.specs.Tables.{header_front, enrolment_header, debit_header, data_front, enrolment_data, debit_data, enrolment_request_data, enrolment_result_data, debit_request_data, debit_result_data, bank_enrolment_data, trailer_front, enrolment_trailer, enrolment_request_trailer, enrolment_result_trailer, debit_request_trailer, debit_result_trailer, rows_for, rows_of}
use Rattle.tables.proofs.Tiling.{row_within}
use Rattle.rows.specs.Laid.{laid, most, laid_out}

-- blank rows stand behind a table that fits
at_place : (n : ℕ) (rows : List Row) → length rows ≤ n → (i : ℕ) → get_or (laid n rows) i blank ≡ get_or rows i blank
unfolding laid
at_place zero [] h i = refl
at_place zero (r ∷ rows) h i = absurd (not-suc-le-zero h)
at_place (suc n) [] h zero = refl
at_place (suc n) [] h (suc i) = at_place n [] zero-le i
at_place (suc n) (r ∷ rows) h zero = refl
at_place (suc n) (r ∷ rows) h (suc i) = at_place n rows (le_of_suc-le-suc h) i

as_long : (n : ℕ) (rows : List Row) → length (laid n rows) ≡ n
unfolding laid
as_long zero rows = refl
as_long (suc n) [] = ap suc (as_long n [])
as_long (suc n) (r ∷ rows) = ap suc (as_long n rows)

-- p is true of row i
abbrev at : (Row → Bool) → List Row → ℕ → Bool
at p rows i = p (get_or rows i blank)

-- the first row of which p is true, blank where there is none
abbrev pub first : (Row → Bool) → List Row → Row
first p rows = get_or rows (least (at p rows) (length rows)) blank

module _ (p : Row → Bool) (rows : List Row) where
  -- a search that goes on past the rows finds no other
  past : (n : ℕ) → length rows ≤ n → get_or rows (least (at p rows) n) blank ≡ first p rows
  past n h = ⊎_elim none found (eq-or-lt_of_le here.within)
    where
      here : Least (at p rows) (length rows) (least (at p rows) (length rows))
      here = least-is (at p rows) (length rows)

      there : Least (at p rows) n (least (at p rows) n)
      there = least-is (at p rows) n

      found : least (at p rows) (length rows) < length rows → get_or rows (least (at p rows) n) blank ≡ first p rows
      found l =
          ap (λ (i : ℕ). get_or rows i blank)
          (least-only (at p rows) n (least (at p rows) n) (least (at p rows) (length rows)) there
          (record { within = omega arith; holds = λ _. here.holds l; before = here.before }))

      none : least (at p rows) (length rows) ≡ length rows → get_or rows (least (at p rows) n) blank ≡ first p rows
      none e =
          let i = least (at p rows) n in
          ⊎_elim
          (λ t. let l : i < length rows = ltb-true i (length rows) t in absurd (clash (there.holds (omega arith)) (here.before i (omega arith))))
          (λ f. rw (get_or-eq_default rows blank {n = i} (ltb-false i (length rows) f), e, get_or-eq_default rows blank {n = length rows} (le_refl _)))
          (either (ltb i (length rows)))

  -- blank rows behind a table change no search
  pub first-laid : length rows ≤ most → first p (laid_out rows) ≡ first p rows
  unfolding laid_out
  first-laid h =
      rw (as_long most rows, at_place most rows h, least-same (at p (laid most rows)) (at p rows) most (λ k l. rw (at_place most rows h k))) (past most h)

-- no record of any form has more rows than places
tables-fit : (f : Form) (role : Role) → leb (length (rows_for f role)) most ≡ true
unfolding header_front enrolment_header debit_header data_front enrolment_data debit_data enrolment_request_data enrolment_result_data debit_request_data debit_result_data bank_enrolment_data trailer_front enrolment_trailer enrolment_request_trailer enrolment_result_trailer debit_request_trailer debit_result_trailer
tables-fit = of-record (λ f role. leb (length (rows_for f role)) most) refl

pub rows_fit : (k : Kind) (role : Role) → length (rows_of k role) ≤ most
rows_fit k role = leb-true (length (rows_of k role)) most (tables-fit k.form role)

-- a table that lays out a record's rows: its length, its rows, and that each of them, the blank ones too, lies inside the record
module _ (k : Kind) (role : Role) (rows : List Row) (laid_as : rows ≡ laid_out (rows_of k role)) where
  pub laid-length : length rows ≡ most
  unfolding laid_out
  laid-length = rw laid_as (as_long most (rows_of k role))

  pub laid-row : (i : ℕ) → get_or rows i blank ≡ get_or (rows_of k role) i blank
  unfolding laid_out
  laid-row i = rw laid_as (at_place most (rows_of k role) (rows_fit k role) i)

  pub laid-inside : (i : ℕ) → (get_or rows i blank).1 + (get_or rows i blank).2 ≤ (fixed_of k).size
  laid-inside i = rw (laid-row i) (row_within k role i)
