-- What each class asks of the bytes of its item.
use Rattle.std.specs.Prelude.{ℕ, Bool, cond, not, ◌&&◌, ◌||◌, List, leb, eqb, get_or, drop}
use Rattle.laws.specs.Part.{part, same, begins}
use Rattle.text.specs.Characters.{each, code_text, filled, digits, spaces, zeros}
use Rattle.text.specs.Passbook.{passbook_form}
use Rattle.numbers.specs.Numbers.{says, word_of}
use Rattle.numbers.specs.Dates.{is_date, not_later, is_long_date}
use Rattle.evidence_kinds.specs.Evidence.{extension}
use Rattle.kinds.specs.declared.of_files.Own.{Own}
use Rattle.tables.specs.declared.row.Row.{Row}
use Rattle.tables.specs.declared.row.Class.{Class}
use Rattle.tables.specs.declared.row.Class.TheVariants.{Each, CodeText, Filled, Owner, Institution, KindName, Date, NameDate, Serial, AsHeader, NotLater, Office, NotZero, Failed, FailedOrPart, Least, LongDate, HeaderFrom, Extension, PassbookForm, OneOf}
use Rattle.tables.specs.Codes.{is_table_code}
use Rattle.layout.specs.Items.{change, cancel, date_of, name_day, amount_of, application_of}

-- item 9 of an enrolment: code text, filled unless item 5 is "3"
unfoldable pub owner : List ℕ → List ℕ → Bool
owner item rec = cond (eqb (application_of rec) 0x33) (code_text item) (filled item)

-- "99" and digits
unfoldable pub institution : List ℕ → Bool
institution item = digits item && (eqb (get_or item 0 0) 0x39 && eqb (get_or item 1 0) 0x39)

-- one of three bytes
unfoldable pub one_of : ℕ → ℕ → ℕ → List ℕ → Bool
one_of a b c item = eqb (get_or item 0 0) a || (eqb (get_or item 0 0) b || eqb (get_or item 0 0) c)

-- four digits, spaces, "CHNG" or "CNCL"
unfoldable pub office : List ℕ → Bool
office item = digits item || (spaces item || (eqb (word_of item) change || eqb (word_of item) cancel))

-- "N" and a table code
unfoldable pub failed : List ℕ → Bool
failed item = eqb (get_or item 0 0) 0x4E && is_table_code (word_of (drop 1 item))

-- "P" and a table code or four spaces
unfoldable pub partly : List ℕ → Bool
partly item = eqb (get_or item 0 0) 0x50 && (is_table_code (word_of (drop 1 item)) || eqb (word_of (drop 1 item)) 0x20202020)

-- type "1", or an amount that reaches the least
unfoldable pub enough : ℕ → List ℕ → List ℕ → Bool
enough least item rec = eqb (get_or item 0 0) 0x31 || leb least (amount_of rec)

-- the class holds: of what the kind has of its own, the item, the header's bytes at its place, the record, the header and the record's number
unfoldable pub meets : Class → Own → List ℕ → List ℕ → List ℕ → List ℕ → ℕ → Bool
meets (Each low high) o item theirs rec header n = each low high item
meets CodeText o item theirs rec header n = code_text item
meets Filled o item theirs rec header n = filled item
meets Owner o item theirs rec header n = owner item rec
meets Institution o item theirs rec header n = institution item
meets KindName o item theirs rec header n = eqb (word_of item) o.name
meets Date o item theirs rec header n = is_date item
meets NameDate o item theirs rec header n = same (drop 2 item) (name_day rec)
meets Serial o item theirs rec header n = says item n
meets AsHeader o item theirs rec header n = same item theirs
meets NotLater o item theirs rec header n = not_later item (date_of header)
meets Office o item theirs rec header n = office item
meets NotZero o item theirs rec header n = not (zeros item)
meets Failed o item theirs rec header n = failed item
meets FailedOrPart o item theirs rec header n = failed item || partly item
meets Least o item theirs rec header n = enough o.least item rec
meets LongDate o item theirs rec header n = is_long_date item
meets (HeaderFrom start) o item theirs rec header n = begins item (drop start header)
meets Extension o item theirs rec header n = extension (get_or rec 106 0) item
meets PassbookForm o item theirs rec header n = passbook_form item
meets (OneOf a b c) o item theirs rec header n = one_of a b c item

-- the row's rule holds in a record
unfoldable pub holds : Own → List ℕ → List ℕ → ℕ → Row → Bool
holds o rec header n r = meets r.3 o (part r.1 r.2 rec) (part r.1 r.2 header) rec header n
