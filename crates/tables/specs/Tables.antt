-- The rows of every record of every form: item, start, length, class, code.
use Rattle.std.specs.Prelude.{List, [], ◌∷◌, ◌++◌, ℕ}
use Rattle.kinds.specs.declared.of_files.Kind.{Kind}
use Rattle.kinds.specs.declared.of_files.Form.{Form}
use Rattle.kinds.specs.declared.of_files.Form.TheVariants.{EnrolmentRequest, EnrolmentResult, DebitRequest, DebitResult, BankEnrolment}
use Rattle.kinds.specs.declared.of_files.Role.{Role}
use Rattle.kinds.specs.declared.of_files.Role.TheVariants.{Header, Data, Trailer}
use Rattle.tables.specs.declared.row.Row.{Row}
use Rattle.tables.specs.declared.row.Class.TheVariants.{Each, CodeText, Filled, Owner, Institution, KindName, Date, NameDate, Serial, AsHeader, NotLater, Office, NotZero, Failed, FailedOrPart, Least, PassbookForm, OneOf}
use Rattle.tables.specs.Rows.{row, only, spaces, zeros, digits, free, passbook}

-- codes as numbers; c0000 where breaking the rule is refusal 5
abbrev c0000 : ℕ
c0000 = 0x30303030

abbrev c0011 : ℕ
c0011 = 0x30303131

abbrev c0061 : ℕ
c0061 = 0x30303631

abbrev c0068 : ℕ
c0068 = 0x30303638

abbrev c0075 : ℕ
c0075 = 0x30303735

abbrev c0081 : ℕ
c0081 = 0x30303831

abbrev c0087 : ℕ
c0087 = 0x30303837

abbrev c0088 : ℕ
c0088 = 0x30303838

abbrev c0089 : ℕ
c0089 = 0x30303839

abbrev c0090 : ℕ
c0090 = 0x30303930

abbrev c0098 : ℕ
c0098 = 0x30303938

abbrev c9998 : ℕ
c9998 = 0x39393938

abbrev c_a011 : ℕ
c_a011 = 0x41303131

abbrev c_a012 : ℕ
c_a012 = 0x41303132

-- header, all kinds
unfoldable pub header_front : List Row
header_front =
    row 1 0 1 (only 0x48) c0081 ∷
    row 2 1 8 zeros c0081 ∷
    row 3 9 10 Institution c0088 ∷
    row 4 19 4 KindName c0000 ∷
    row 4 23 4 digits c0088 ∷
    row 5 27 6 digits c0088 ∷
    row 5 27 6 Date c9998 ∷
    row 5 27 6 NameDate c0000 ∷
    []

unfoldable pub enrolment_header : List Row
enrolment_header = header_front ++ (row 6 33 87 spaces c0089 ∷ [])

unfoldable pub debit_header : List Row
debit_header = header_front ++ (
    row 6 33 7 digits c0011 ∷
    row 7 40 16 Filled c0098 ∷
    row 8 56 94 spaces c0089 ∷
    [])

-- every data record begins
unfoldable pub data_front : List Row
data_front =
    row 1 0 1 (only 0x52) c0081 ∷
    row 2 1 8 Serial c0081 ∷
    row 3 9 10 AsHeader c0000 ∷
    []

-- enrolment data, but for items 10, 12, 13 and 15
unfoldable pub enrolment_data : Row → Row → Row → Row → List Row
enrolment_data office result check channel = data_front ++ (
    row 4 19 6 NotLater c_a011 ∷
    row 5 25 1 (OneOf 0x31 0x33 0x37) c_a012 ∷
    row 6 26 20 Filled c0098 ∷
    row 7 46 7 digits c0011 ∷
    row 8 53 16 Filled c0098 ∷
    row 9 69 16 Owner c0098 ∷
    office ∷
    row 11 89 2 CodeText c0098 ∷
    result ∷
    check ∷
    row 14 97 12 free c0088 ∷
    channel ∷
    row 16 110 10 spaces c0089 ∷
    [])

unfoldable pub enrolment_request_data : List Row
enrolment_request_data = enrolment_data (row 10 85 4 spaces c0089) (row 12 91 5 spaces c0089) (row 13 96 1 spaces c0089) (row 15 109 1 spaces c0089)

unfoldable pub enrolment_result_data : List Row
enrolment_result_data = enrolment_data (row 10 85 4 spaces c0089) (row 12 91 5 Failed c0088) (row 13 96 1 spaces c0089) (row 15 109 1 spaces c0089)

-- enrolment at a bank: the office code; "Y", "N" or a space, whether item 9 is to be checked; the channel, "1" or "4"
unfoldable pub bank_enrolment_data : List Row
bank_enrolment_data =
    enrolment_data (row 10 85 4 Office c0088) (row 12 91 5 spaces c0089) (row 13 96 1 (OneOf 0x59 0x4E 0x20) c0088) (row 15 109 1 (OneOf 0x31 0x34 0x34) c0088)

-- debit data, but for item 8 and what else items 9 and 13 ask
unfoldable pub debit_data : Row → List Row → List Row → List Row
debit_data result form enough = data_front ++ (
    row 4 19 7 digits c0011 ∷
    row 5 26 16 Filled c0098 ∷
    row 6 42 13 digits c0088 ∷
    row 6 42 13 NotZero c0061 ∷
    row 7 55 13 CodeText c0098 ∷
    result ∷
    row 9 73 16 passbook c0068 ∷
    []) ++ (form ++ (
    row 10 89 2 CodeText c0098 ∷
    row 11 91 20 Filled c0098 ∷
    row 12 111 5 free c0088 ∷
    row 13 116 1 (Each 0x30 0x36) c0075 ∷
    []) ++ (enough ++ (
    row 14 117 12 free c0088 ∷
    row 15 129 21 spaces c0089 ∷
    [])))

unfoldable pub debit_request_data : List Row
debit_request_data = debit_data (row 8 68 5 spaces c0089) (row 9 73 16 PassbookForm c0087 ∷ []) (row 13 116 1 Least c0075 ∷ [])

unfoldable pub debit_result_data : List Row
debit_result_data = debit_data (row 8 68 5 FailedOrPart c0088) [] []

-- trailer, all kinds
unfoldable pub trailer_front : List Row
trailer_front =
    row 1 0 1 (only 0x54) c0081 ∷
    row 2 1 8 (only 0x39) c0081 ∷
    row 3 9 10 AsHeader c0000 ∷
    row 4 19 8 AsHeader c0000 ∷
    row 5 27 8 digits c0088 ∷
    []

-- enrolment, but for the MAC
unfoldable pub enrolment_trailer : Row → List Row
enrolment_trailer mac = trailer_front ++ (
    row 6 35 8 digits c0088 ∷
    row 7 43 8 zeros c0090 ∷
    row 8 51 8 digits c0088 ∷
    row 9 59 8 digits c0088 ∷
    row 10 67 43 spaces c0089 ∷
    mac ∷
    [])

unfoldable pub enrolment_request_trailer : List Row
enrolment_request_trailer = enrolment_trailer (row 11 110 10 spaces c0089)

unfoldable pub enrolment_result_trailer : List Row
enrolment_result_trailer = enrolment_trailer (row 11 110 10 free c0088)

unfoldable pub debit_request_trailer : List Row
debit_request_trailer = trailer_front ++ (
    row 6 35 8 digits c0088 ∷
    row 7 43 13 digits c0088 ∷
    row 8 56 8 zeros c0090 ∷
    row 9 64 13 zeros c0090 ∷
    row 10 77 63 spaces c0089 ∷
    row 11 140 10 spaces c0089 ∷
    [])

unfoldable pub debit_result_trailer : List Row
debit_result_trailer = trailer_front ++ (
    row 6 35 8 digits c0088 ∷
    row 7 43 13 digits c0088 ∷
    row 8 56 8 digits c0088 ∷
    row 9 64 13 digits c0088 ∷
    row 10 77 8 digits c0088 ∷
    row 11 85 4 zeros c0090 ∷
    row 12 89 11 digits c0088 ∷
    row 13 100 11 zeros c0090 ∷
    row 14 111 29 spaces c0089 ∷
    row 15 140 10 free c0088 ∷
    [])

-- the rows of each record of each form
abbrev pub rows_for : Form → Role → List Row
rows_for EnrolmentRequest Header = enrolment_header
rows_for EnrolmentRequest Data = enrolment_request_data
rows_for EnrolmentRequest Trailer = enrolment_request_trailer
rows_for EnrolmentResult Header = enrolment_header
rows_for EnrolmentResult Data = enrolment_result_data
rows_for EnrolmentResult Trailer = enrolment_result_trailer
rows_for DebitRequest Header = debit_header
rows_for DebitRequest Data = debit_request_data
rows_for DebitRequest Trailer = debit_request_trailer
rows_for DebitResult Header = debit_header
rows_for DebitResult Data = debit_result_data
rows_for DebitResult Trailer = debit_result_trailer
rows_for BankEnrolment Header = enrolment_header
rows_for BankEnrolment Data = bank_enrolment_data
rows_for BankEnrolment Trailer = enrolment_result_trailer

abbrev pub rows_of : Kind → Role → List Row
rows_of k role = rows_for k.form role
