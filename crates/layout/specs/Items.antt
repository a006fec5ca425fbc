-- Items that a rule reads beside its own.
use Rattle.std.specs.Prelude.{ℕ, ◌+◌, List, get_or}
use Rattle.laws.specs.Part.{part}
use Rattle.numbers.specs.Numbers.{value_of, word_of}
use Rattle.tables.specs.declared.copied.Copied.{Copied}
use Rattle.tables.specs.Places.{date_place, name_day_place, application_place, office_place, amount_place, debited_place, passbook_place, type_place}

-- the bytes at a place, and the first of them
abbrev pub bytes_at : Copied → List ℕ → List ℕ
bytes_at c rec = part c.1 c.2 rec

abbrev pub byte_at : Copied → List ℕ → ℕ
byte_at c rec = get_or rec c.1 0

-- of a header: the date, item 5, and the MMDD of the file name, in item 4
abbrev pub date_of : List ℕ → List ℕ
date_of header = bytes_at date_place header

abbrev pub name_day : List ℕ → List ℕ
name_day header = bytes_at name_day_place header

-- of an enrolment record: the application kind, item 5
abbrev pub application_of : List ℕ → ℕ
application_of rec = byte_at application_place rec

-- of an enrolment at a bank: the office code, item 10, as one number, and those that are no number, "CHNG" and "CNCL"
abbrev pub office_of : List ℕ → ℕ
office_of rec = word_of (bytes_at office_place rec)

abbrev pub change : ℕ
change = 0x43484E47

abbrev pub cancel : ℕ
cancel = 0x434E434C

-- of a debit record: the amount, item 6; the result's mark and its code, in item 8; the passbook text, item 9; the type, item 13
abbrev pub amount_of : List ℕ → ℕ
amount_of rec = value_of (bytes_at amount_place rec)

abbrev pub mark_of : List ℕ → ℕ
mark_of rec = byte_at debited_place rec

abbrev pub code_of : List ℕ → ℕ
code_of rec = word_of (part (debited_place.1 + 1) 4 rec)

abbrev pub passbook_of : List ℕ → List ℕ
passbook_of rec = bytes_at passbook_place rec

abbrev pub type_of : List ℕ → ℕ
type_of rec = byte_at type_place rec
