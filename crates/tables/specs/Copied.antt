-- The items that a result copies: all data items but 1, 2, the result and, in debit, the amount.
use Rattle.std.specs.Prelude.{ℕ, Bool, false, cond, ◌||◌, List, [], ◌∷◌, eqb}
use Rattle.kinds.specs.declared.of_files.Kind.{Kind}
use Rattle.kinds.specs.declared.of_files.Form.{Form}
use Rattle.kinds.specs.declared.of_files.Form.TheVariants.{EnrolmentRequest, EnrolmentResult, DebitRequest, DebitResult, BankEnrolment}
use Rattle.tables.specs.declared.row.Row.{Row}
use Rattle.tables.specs.declared.copied.Copied.{Copied}
use Rattle.tables.specs.Tables.{enrolment_request_data, debit_request_data}

-- item, start, length
abbrev pub no_item : Copied
no_item = record { 0 = 0; 1 = 0; 2 = 0 }

unfoldable pub among : ℕ → List ℕ → Bool
among n [] = false
among n (m ∷ ms) = eqb n m || among n ms

-- each item of the rows once, but those left out; `last` is the item before
unfoldable pub items_but : List ℕ → ℕ → List Row → List Copied
items_but out last [] = []
items_but out last (r ∷ rows) =
    cond (eqb r.0 last || among r.0 out) (items_but out last rows)
    (record { 0 = r.0; 1 = r.1; 2 = r.2 } ∷ items_but out r.0 rows)

-- all but 1, 2 and the result, item 12
unfoldable pub enrolment_copied : List Copied
enrolment_copied = items_but (1 ∷ 2 ∷ 12 ∷ []) 0 enrolment_request_data

-- all but 1, 2, the amount, item 6, and the result, item 8
unfoldable pub debit_copied : List Copied
debit_copied = items_but (1 ∷ 2 ∷ 6 ∷ 8 ∷ []) 0 debit_request_data

abbrev pub copied_for : Form → List Copied
copied_for EnrolmentRequest = enrolment_copied
copied_for EnrolmentResult = enrolment_copied
copied_for DebitRequest = debit_copied
copied_for DebitResult = debit_copied
copied_for BankEnrolment = enrolment_copied

abbrev pub copied_of : Kind → List Copied
copied_of k = copied_for k.form
