-- A row: item, start, length, class, code.
use Rattle.std.specs.Prelude.{ℕ, ◌+◌, Bool, ◌&&◌, ◌||◌, List, [], ◌∷◌, eqb}
use Rattle.tables.specs.declared.row.Row.{Row}
use Rattle.tables.specs.declared.row.Class.{Class}
use Rattle.tables.specs.declared.row.Class.TheVariants.{Each}

abbrev pub row : ℕ → ℕ → ℕ → Class → ℕ → Row
row item start size class code = record { 0 = item; 1 = start; 2 = size; 3 = class; 4 = code }

abbrev pub blank : Row
blank = row 0 0 0 (Each 0 0) 0

-- the classes that are one run of bytes
abbrev pub only : ℕ → Class
only b = Each b b

abbrev pub spaces : Class
spaces = only 0x20

abbrev pub zeros : Class
zeros = only 0x30

abbrev pub digits : Class
digits = Each 0x30 0x39

abbrev pub free : Class
free = Each 0x20 0x7E

abbrev pub passbook : Class
passbook = Each 0x20 0xFF

-- rows one after the other fill a record: each begins where the last one ended, or states one more rule of the same bytes
unfoldable pub next : Row → ℕ → ℕ → ℕ → Bool
next r item start size =
    eqb r.0 item && (eqb r.1 start && eqb r.2 size) || (eqb r.0 item || eqb r.0 (item + 1)) && eqb r.1 (start + size)

unfoldable pub tiles_from : ℕ → ℕ → ℕ → ℕ → List Row → Bool
tiles_from whole item start size [] = eqb (start + size) whole
tiles_from whole item start size (r ∷ rows) = next r item start size && tiles_from whole r.0 r.1 r.2 rows

unfoldable pub tiles : ℕ → List Row → Bool
tiles whole rows = tiles_from whole 0 0 0 rows
