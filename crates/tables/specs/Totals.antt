-- The trailer's totals: item, start, length, and the quantity that the item must say.
use Rattle.std.specs.Prelude.{ℕ, List, [], ◌∷◌}
use Rattle.kinds.specs.declared.of_files.Kind.{Kind}
use Rattle.kinds.specs.declared.of_files.Form.{Form}
use Rattle.kinds.specs.declared.of_files.Form.TheVariants.{EnrolmentRequest, EnrolmentResult, DebitRequest, DebitResult, BankEnrolment}
use Rattle.tables.specs.declared.totals.Total.{Total}
use Rattle.tables.specs.declared.totals.Quantity.{Quantity}
use Rattle.tables.specs.declared.totals.Quantity.TheVariants.{Records, OfKind, Amounts, Marked, AmountsMarked, MarkedByCentre}

abbrev pub total : ℕ → ℕ → ℕ → Quantity → Total
total item start size quantity = record { 0 = item; 1 = start; 2 = size; 3 = quantity }

abbrev pub no_total : Total
no_total = total 0 0 0 Records

-- enrolment: n; records of kinds "1", "3", "7"
unfoldable pub enrolment_totals : List Total
enrolment_totals =
    total 5 27 8 Records ∷
    total 6 35 8 (OfKind 0x31) ∷
    total 8 51 8 (OfKind 0x33) ∷
    total 9 59 8 (OfKind 0x37) ∷
    []

-- debit request: n twice; the sum of amounts
unfoldable pub debit_request_totals : List Total
debit_request_totals =
    total 5 27 8 Records ∷
    total 6 35 8 Records ∷
    total 7 43 13 Amounts ∷
    []

-- debit result: n; count and sum of "N" records, count and sum of "P" records, count of "N" records with a centre's code
unfoldable pub debit_result_totals : List Total
debit_result_totals =
    total 5 27 8 Records ∷
    total 6 35 8 (Marked 0x4E) ∷
    total 7 43 13 (AmountsMarked 0x4E) ∷
    total 8 56 8 (Marked 0x50) ∷
    total 9 64 13 (AmountsMarked 0x50) ∷
    total 10 77 8 (MarkedByCentre 0x4E) ∷
    []

abbrev pub totals_for : Form → List Total
totals_for EnrolmentRequest = enrolment_totals
totals_for EnrolmentResult = enrolment_totals
totals_for DebitRequest = debit_request_totals
totals_for DebitResult = debit_result_totals
totals_for BankEnrolment = enrolment_totals

abbrev pub totals_of : Kind → List Total
totals_of k = totals_for k.form

-- no trailer has more
abbrev pub most_totals : ℕ
most_totals = 6
