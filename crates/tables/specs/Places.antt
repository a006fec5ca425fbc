-- Items that are read beside their own rows: item, start, length. One computed test, `places-stand`, holds all of them to the rows.
use Rattle.std.specs.Prelude.{ℕ, ◌+◌, Bool, true, false, cond, ◌&&◌, ◌||◌, List, [], ◌∷◌, eqb}
use Rattle.kinds.specs.declared.of_files.Form.{Form}
use Rattle.kinds.specs.declared.of_files.Form.TheVariants.{EnrolmentRequest, EnrolmentResult, DebitRequest, DebitResult, BankEnrolment}
use Rattle.kinds.specs.declared.of_files.Role.TheVariants.{Header, Data, Trailer}
use Rattle.kinds.specs.Kinds.{front, fixed_for}
use Rattle.tables.specs.declared.row.Row.{Row}
use Rattle.tables.specs.declared.totals.Total.{Total}
use Rattle.tables.specs.declared.copied.Copied.{Copied}
use Rattle.tables.specs.Copied.{no_item}
use Rattle.tables.specs.Tables.{rows_for}
use Rattle.tables.specs.Totals.{totals_for}

abbrev pub place : ℕ → ℕ → ℕ → Copied
place item start size = record { 0 = item; 1 = start; 2 = size }

-- of a header: the institution code, the MMDD of the file name, the date; in debit the branch and the account
abbrev pub code_place : Copied
code_place = place 3 9 10

abbrev pub name_day_place : Copied
name_day_place = place 4 23 4

abbrev pub date_place : Copied
date_place = place 5 27 6

abbrev pub branch_place : Copied
branch_place = place 6 33 7

abbrev pub account_place : Copied
account_place = place 7 40 16

-- of an enrolment record: the application kind, the payer, the result
abbrev pub application_place : Copied
application_place = place 5 25 1

abbrev pub member_place : Copied
member_place = place 6 26 20

abbrev pub enrolled_place : Copied
enrolled_place = place 12 91 5

-- of an enrolment at a bank besides: the branch, the account, the office code
abbrev pub bank_place : Copied
bank_place = place 7 46 7

abbrev pub holding_place : Copied
holding_place = place 8 53 16

abbrev pub office_place : Copied
office_place = place 10 85 4

-- of a debit record: the amount, the result, the passbook text, the payer, the institution's own use, the type
abbrev pub amount_place : Copied
amount_place = place 6 42 13

abbrev pub debited_place : Copied
debited_place = place 8 68 5

abbrev pub passbook_place : Copied
passbook_place = place 9 73 16

abbrev pub payer_place : Copied
payer_place = place 11 91 20

abbrev pub use_place : Copied
use_place = place 12 111 5

abbrev pub type_place : Copied
type_place = place 13 116 1

-- where the first row of an item stands
unfoldable pub place_in : List Row → ℕ → Copied
place_in [] item = no_item
place_in (r ∷ rows) item = cond (eqb r.0 item) (place r.0 r.1 r.2) (place_in rows item)

-- some row of the item has this place
unfoldable pub stands : List Row → Copied → Bool
stands [] c = false
stands (r ∷ rows) c = eqb r.0 c.0 && (eqb r.1 c.1 && eqb r.2 c.2) || stands rows c

unfoldable pub all_stand : List Row → List Copied → Bool
all_stand rows [] = true
all_stand rows (c ∷ cs) = stands rows c && all_stand rows cs

unfoldable pub totals_stand : List Row → List Total → Bool
totals_stand rows [] = true
totals_stand rows (t ∷ ts) = stands rows (place t.0 t.1 t.2) && totals_stand rows ts

-- the items of a header and of a data record that are read beside their rows
abbrev pub header_places : Form → List Copied
header_places EnrolmentRequest = code_place ∷ name_day_place ∷ date_place ∷ []
header_places EnrolmentResult = code_place ∷ name_day_place ∷ date_place ∷ []
header_places DebitRequest = code_place ∷ name_day_place ∷ date_place ∷ branch_place ∷ account_place ∷ []
header_places DebitResult = code_place ∷ name_day_place ∷ date_place ∷ branch_place ∷ account_place ∷ []
header_places BankEnrolment = code_place ∷ name_day_place ∷ date_place ∷ []

abbrev pub data_places : Form → List Copied
data_places EnrolmentRequest = application_place ∷ member_place ∷ enrolled_place ∷ []
data_places EnrolmentResult = application_place ∷ member_place ∷ enrolled_place ∷ []
data_places DebitRequest = amount_place ∷ debited_place ∷ passbook_place ∷ payer_place ∷ use_place ∷ type_place ∷ []
data_places DebitResult = amount_place ∷ debited_place ∷ passbook_place ∷ payer_place ∷ use_place ∷ type_place ∷ []
data_places BankEnrolment = application_place ∷ member_place ∷ bank_place ∷ holding_place ∷ office_place ∷ enrolled_place ∷ []

-- the key is two items side by side, reported as `reported`; a result's mark begins the item of its result
unfoldable pub key_is : Form → Copied → Copied → Copied → Bool
key_is f first second reported =
    eqb (fixed_for f).key.start first.1 && (eqb (first.1 + first.2) second.1 && (eqb (fixed_for f).key.size (first.2 + second.2) &&
    eqb (fixed_for f).key.item reported.0))

abbrev pub key_stands : Form → Bool
key_stands EnrolmentRequest = key_is EnrolmentRequest application_place member_place member_place
key_stands EnrolmentResult = key_is EnrolmentResult application_place member_place member_place
key_stands DebitRequest = key_is DebitRequest payer_place use_place payer_place
key_stands DebitResult = key_is DebitResult payer_place use_place payer_place
key_stands BankEnrolment = key_is BankEnrolment application_place member_place member_place

abbrev pub mark_stands : Form → Bool
mark_stands EnrolmentRequest = eqb (fixed_for EnrolmentRequest).mark enrolled_place.1
mark_stands EnrolmentResult = eqb (fixed_for EnrolmentResult).mark enrolled_place.1
mark_stands DebitRequest = eqb (fixed_for DebitRequest).mark debited_place.1
mark_stands DebitResult = eqb (fixed_for DebitResult).mark debited_place.1
mark_stands BankEnrolment = eqb (fixed_for BankEnrolment).mark enrolled_place.1

-- a body begins where item 4 does and ends with the record; items 6 and 7 are given where the header has them
unfoldable pub body_stands : Form → Bool
body_stands f = eqb (place_in (rows_for f Data) 4).1 front && eqb (front + (fixed_for f).body) (fixed_for f).size

abbrev pub given_stand : Form → Bool
given_stand EnrolmentRequest = eqb (fixed_for EnrolmentRequest).item6 0 && eqb (fixed_for EnrolmentRequest).item7 0
given_stand EnrolmentResult = eqb (fixed_for EnrolmentResult).item6 0 && eqb (fixed_for EnrolmentResult).item7 0
given_stand DebitRequest = eqb (fixed_for DebitRequest).item6 branch_place.2 && eqb (fixed_for DebitRequest).item7 account_place.2
given_stand DebitResult = eqb (fixed_for DebitResult).item6 branch_place.2 && eqb (fixed_for DebitResult).item7 account_place.2
given_stand BankEnrolment = eqb (fixed_for BankEnrolment).item6 0 && eqb (fixed_for BankEnrolment).item7 0

-- all of them, for one form
unfoldable pub places_stand : Form → Bool
places_stand f =
    all_stand (rows_for f Header) (header_places f) && (all_stand (rows_for f Data) (data_places f) && (totals_stand (rows_for f Trailer) (totals_for f) &&
    (key_stands f && (mark_stands f && (body_stands f && given_stand f)))))
