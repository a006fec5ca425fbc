-- A unit of consent evidence: items 6 to 12 of a record, 74 bytes, then its evidence. A file has one in each record, and a writer is
-- given them one behind the other.
use Rattle.std.specs.Prelude.{ℕ, ◌+◌, List, get_or}
use Rattle.laws.specs.Part.{part}
use Rattle.numbers.specs.Numbers.{value_of}

-- bytes of items 6 to 12
abbrev pub items : ℕ
items = 74

-- of the unit that begins at place p: how many bytes of evidence it says, and their kind
unfoldable pub said_at : List ℕ → ℕ → ℕ
said_at x p = value_of (part (p + 67) 7 x)

unfoldable pub sort_at : List ℕ → ℕ → ℕ
sort_at x p = get_or x (p + 61) 0

-- and the evidence itself
unfoldable pub evidence_at : List ℕ → ℕ → List ℕ
evidence_at x p = part (p + items) (said_at x p) x
