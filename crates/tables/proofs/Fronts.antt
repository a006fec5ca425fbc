-- Records of one role begin with the same rows, whatever their form.
-- Assumes nothing.
use Prim.Native.Nat.{ℕ, ◌<◌}
use mathlib.Core.List.{List, ◌++◌}
use mathlib.Core.Path.{◌≡◌, refl}
use native.Mathlib.Omega.{arith}
use lib.ListN.{length, get_or, drop, length-append, get_or-append}
use Rattle.kinds.specs.declared.of_files.Form.{Form}
use Rattle.kinds.specs.declared.of_files.Form.TheVariants.{EnrolmentRequest, EnrolmentResult, DebitRequest, DebitResult, BankEnrolment}
use Rattle.kinds.specs.declared.of_files.Kind.{Kind}
use Rattle.kinds.specs.declared.of_files.Role.{Role}
use Rattle.kinds.specs.declared.of_files.Role.TheVariants.{Header, Data, Trailer}
use Rattle.tables.specs.declared.row.Row.{Row}
use Rattle.tables.specs.Rows.{blank}
use Rattle.tables.specs.Tables.{header_front, enrolment_header, debit_header, data_front, enrolment_data, debit_data, enrolment_request_data, enrolment_result_data, debit_request_data, debit_result_data, bank_enrolment_data, trailer_front, enrolment_trailer, enrolment_request_trailer, enrolment_result_trailer, debit_request_trailer, debit_result_trailer, rows_for, rows_of}

-- what all records of a role begin with
abbrev pub fronts : Role → List Row
fronts Header = header_front
fronts Data = data_front
fronts Trailer = trailer_front

rows-begin : (f : Form) (role : Role) → rows_for f role ≡ fronts role ++ drop (length (fronts role)) (rows_for f role)
unfolding header_front enrolment_header debit_header data_front enrolment_data debit_data enrolment_request_data enrolment_result_data debit_request_data debit_result_data bank_enrolment_data trailer_front enrolment_trailer enrolment_request_trailer enrolment_result_trailer debit_request_trailer debit_result_trailer
rows-begin EnrolmentRequest Header = refl
rows-begin EnrolmentRequest Data = refl
rows-begin EnrolmentRequest Trailer = refl
rows-begin EnrolmentResult Header = refl
rows-begin EnrolmentResult Data = refl
rows-begin EnrolmentResult Trailer = refl
rows-begin DebitRequest Header = refl
rows-begin DebitRequest Data = refl
rows-begin DebitRequest Trailer = refl
rows-begin DebitResult Header = refl
rows-begin DebitResult Data = refl
rows-begin DebitResult Trailer = refl
rows-begin BankEnrolment Header = refl
rows-begin BankEnrolment Data = refl
rows-begin BankEnrolment Trailer = refl

-- a record is what all of its role begin with, and the rest
pub rows-front : (k : Kind) (role : Role) → rows_of k role ≡ fronts role ++ drop (length (fronts role)) (rows_of k role)
rows-front k role = rows-begin k.form role

module _ (k : Kind) (role : Role) (i : ℕ) (h : i < length (fronts role)) where
  -- row i of a record is that of every other record of its role
  pub front-row : get_or (rows_of k role) i blank ≡ get_or (fronts role) i blank
  front-row =
      rw (rows-begin k.form role)
      (get_or-append (fronts role) (drop (length (fronts role)) (rows_of k role)) blank i h)

  -- and is there
  pub front-some : i < length (rows_of k role)
  front-some =
      rw (rows-begin k.form role)
      (rw (length-append (fronts role) (drop (length (fronts role)) (rows_of k role))) (omega (arith, h)))
