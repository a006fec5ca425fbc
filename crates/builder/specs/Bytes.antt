-- What stands at a place of a record to be written, by the row over it.
use Rattle.std.specs.Prelude.{ℕ, ◌+◌, Bool, cond, ◌&&◌, List, leb, ltb, eqb, length, get_or}
use Rattle.laws.specs.Least.{least}
use Rattle.laws.specs.Tabulate.{tabulate}
use Rattle.tables.specs.declared.row.Row.{Row}
use Rattle.tables.specs.declared.row.Class.{Class}
use Rattle.tables.specs.declared.row.Class.TheVariants.{Each, CodeText, Filled, Owner, Institution, KindName, Date, NameDate, Serial, AsHeader, NotLater, Office, NotZero, Failed, FailedOrPart, Least, LongDate, HeaderFrom, Extension, PassbookForm, OneOf}
use Rattle.tables.specs.Rows.{blank}

-- a row is over place j, row i is, the first row that is
unfoldable pub over_row : Row → ℕ → Bool
over_row r j = leb r.1 j && ltb j (r.1 + r.2)

unfoldable pub over : List Row → ℕ → ℕ → Bool
over rows j i = over_row (get_or rows i blank) j

unfoldable pub row_over : List Row → ℕ → Row
row_over rows j = get_or rows (least (over rows j) (length rows)) blank

-- what a row writes at its places, by what it writes at each
unfoldable pub written : (Row → ℕ → ℕ) → Row → List ℕ
written fill r = tabulate (λ d. fill r (r.1 + d)) r.2

-- what a class writes: its one byte, the kind's letter, the serial's digit, the header's byte; else what is given
abbrev pub fill_by : Class → ℕ → ℕ → ℕ → ℕ → ℕ
fill_by (Each low high) given letter digit theirs = cond (eqb low high) low given
fill_by CodeText given letter digit theirs = given
fill_by Filled given letter digit theirs = given
fill_by Owner given letter digit theirs = given
fill_by Institution given letter digit theirs = given
fill_by KindName given letter digit theirs = letter
fill_by Date given letter digit theirs = given
fill_by NameDate given letter digit theirs = given
fill_by Serial given letter digit theirs = digit
fill_by AsHeader given letter digit theirs = theirs
fill_by NotLater given letter digit theirs = given
fill_by Office given letter digit theirs = given
fill_by NotZero given letter digit theirs = given
fill_by Failed given letter digit theirs = given
fill_by FailedOrPart given letter digit theirs = given
fill_by Least given letter digit theirs = given
fill_by LongDate given letter digit theirs = given
fill_by (HeaderFrom start) given letter digit theirs = given
fill_by Extension given letter digit theirs = given
fill_by PassbookForm given letter digit theirs = given
fill_by (OneOf a b c) given letter digit theirs = given
