-- The rows of an evidence file, EI13: item, start, length, class, code.
use Rattle.std.specs.Prelude.{ℕ, Bool, cond, List, [], ◌∷◌, ◌++◌}
use Rattle.tables.specs.declared.row.Row.{Row}
use Rattle.tables.specs.declared.row.Class.{Class}
use Rattle.tables.specs.declared.row.Class.TheVariants.{Each, Filled, Institution, Serial, LongDate, HeaderFrom, Extension}
use Rattle.tables.specs.Rows.{row, only, spaces, zeros, digits}

-- codes as numbers; c0000 where breaking the rule is refusal 5
abbrev c0000 : ℕ
c0000 = 0x30303030

abbrev c0081 : ℕ
c0081 = 0x30303831

abbrev c0088 : ℕ
c0088 = 0x30303838

abbrev c0089 : ℕ
c0089 = 0x30303839

abbrev c0098 : ℕ
c0098 = 0x30303938

abbrev c0101 : ℕ
c0101 = 0x30313031

abbrev c0102 : ℕ
c0102 = 0x30313032

abbrev c9998 : ℕ
c9998 = 0x39393938

-- every record begins with the business code AE1112 and its mark, twice
unfoldable pub front : ℕ → List Row
front mark =
    row 1 0 1 (only 0x41) c0081 ∷
    row 1 1 1 (only 0x45) c0081 ∷
    row 1 2 3 (only 0x31) c0081 ∷
    row 1 5 1 (only 0x32) c0081 ∷
    row 2 6 2 (only mark) c0081 ∷
    []

-- the header: "11"
unfoldable pub header_rows : List Row
header_rows = front 0x31 ++ (
    row 3 8 7 zeros c0081 ∷
    row 4 15 8 LongDate c9998 ∷
    row 5 23 10 Institution c0088 ∷
    row 5 33 10 spaces c0088 ∷
    row 6 43 7 digits c0088 ∷
    row 7 50 974 spaces c0089 ∷
    [])

-- items 1 to 12 of a data record: "22"; the header's institution code stands at byte 23 there
unfoldable pub record_rows : Class → List Row
record_rows extension = front 0x32 ++ (
    row 3 8 7 Serial c0081 ∷
    row 4 15 10 spaces c0089 ∷
    row 5 25 10 Institution c0088 ∷
    row 5 35 10 spaces c0088 ∷
    row 5 25 20 (HeaderFrom 23) c0000 ∷
    row 6 45 30 Filled c0098 ∷
    row 7 75 3 digits c0088 ∷
    row 8 78 20 Filled c0098 ∷
    row 9 98 8 LongDate c9998 ∷
    row 10 106 1 (Each 0x31 0x36) c0101 ∷
    row 11 107 5 extension c0102 ∷
    row 12 112 7 digits c0088 ∷
    [])

-- an institution that sends evidence, and one that is partly exempt and leaves the extension blank
abbrev pub ordinary_rows : List Row
ordinary_rows = record_rows Extension

abbrev pub exempt_rows : List Row
exempt_rows = record_rows spaces

abbrev pub data_rows : Bool → List Row
data_rows exempt = cond exempt exempt_rows ordinary_rows

-- the trailer: "33"
unfoldable pub trailer_rows : List Row
trailer_rows = front 0x33 ++ (
    row 3 8 7 (only 0x39) c0081 ∷
    row 4 15 10 Institution c0088 ∷
    row 4 25 10 spaces c0088 ∷
    row 4 15 20 (HeaderFrom 23) c0000 ∷
    row 5 35 7 digits c0088 ∷
    row 6 42 10 digits c0088 ∷
    row 7 52 972 spaces c0089 ∷
    [])
