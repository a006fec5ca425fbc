-- The character classes. Each is had from how many bytes in front a set takes.
use Rattle.std.specs.Prelude.{ℕ, Bool, not, ◌&&◌, ◌||◌, List, leb, ltb, eqb, length, get_or, drop}
use Rattle.laws.specs.Least.{least}
use Rattle.text.specs.declared.characters.Set.{Set}
use Rattle.text.specs.declared.characters.Set.TheVariants.{From, Code, OneByte}

-- the byte is one from low to high
unfoldable pub within : ℕ → ℕ → ℕ → Bool
within low high b = leb low b && leb b high

-- a letter of either case
unfoldable pub letter : ℕ → Bool
letter b = within 0x41 0x5A b || within 0x61 0x7A b

-- the bytes of a set: those from low to high; digits and capitals; letters, digits and the space
unfoldable pub takes : Set → ℕ → Bool
takes (From low high) b = within low high b
takes Code b = within 0x30 0x39 b || within 0x41 0x5A b
takes OneByte b = letter b || (within 0x30 0x39 b || eqb b 0x20)

-- the set does not take the byte at place k
unfoldable pub stops_at : Set → List ℕ → ℕ → Bool
stops_at set s k = not (takes set (get_or s k 0))

-- how many bytes in front the set takes
unfoldable pub front : Set → List ℕ → ℕ
front set s = least (stops_at set s) (length s)

-- the set takes every byte
abbrev pub takes_all : Set → List ℕ → Bool
takes_all set s = eqb (front set s) (length s)

-- every byte is one from low to high
unfoldable pub each : ℕ → ℕ → List ℕ → Bool
each low high s = takes_all (From low high) s

-- digits: every byte "0" to "9"
unfoldable pub digits : List ℕ → Bool
digits = each 0x30 0x39

-- spaces only
unfoldable pub spaces : List ℕ → Bool
spaces = each 0x20 0x20

-- "0" only
unfoldable pub zeros : List ℕ → Bool
zeros = each 0x30 0x30

-- code text: digits and capitals, then only spaces
unfoldable pub code_text : List ℕ → Bool
code_text s = spaces (drop (front Code s) s)

-- filled: at least one character before the spaces
unfoldable pub filled : List ℕ → Bool
filled s = ltb 0 (front Code s) && code_text s

-- two-byte characters: both bytes of each are hex A1 to FE
unfoldable pub two_byte : List ℕ → Bool
two_byte s = each 0xA1 0xFE s

-- one-byte characters: each is a letter of either case, a digit or a space
unfoldable pub one_byte : List ℕ → Bool
one_byte s = takes_all OneByte s
