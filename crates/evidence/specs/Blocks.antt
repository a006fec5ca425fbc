-- A file in blocks of 1,024 bytes, and where its records stand: from record to record by their lengths alone.
use Rattle.std.specs.Prelude.{ℕ, zero, suc, ◌+◌, ◌-◌, ◌*◌, ◌/◌, Bool, List, leb, length, get_or}
use Rattle.laws.specs.Least.{least}
use Rattle.laws.specs.Part.{part}
use Rattle.numbers.specs.Numbers.{value_of}
use Rattle.kinds.specs.Kinds.{limit}

abbrev pub block : ℕ
block = 1024

-- bytes of items 1 to 12, which stand before the evidence
abbrev pub front : ℕ
front = 119

-- the most data blocks
abbrev pub most_blocks : ℕ
most_blocks = 4096

-- blocks of a record with so many bytes of evidence: 905 take one, 906 two
unfoldable pub blocks_for : ℕ → ℕ
blocks_for length = (front + length + 1023) / block

-- how many blocks a file has; the first is the header, the last the trailer
unfoldable pub blocks_in : List ℕ → ℕ
blocks_in s = length s / block

abbrev pub last_block : List ℕ → ℕ
last_block s = blocks_in s - 1

abbrev pub data_blocks : List ℕ → ℕ
data_blocks s = blocks_in s - 2

unfoldable pub block_at : List ℕ → ℕ → List ℕ
block_at s b = part (b * block) block s

-- item 12 of the record that begins with block b: how many bytes its evidence has
unfoldable pub length_at : List ℕ → ℕ → ℕ
length_at s b = value_of (part (b * block + 112) 7 s)

-- and item 10, its kind
unfoldable pub kind_at : List ℕ → ℕ → ℕ
kind_at s b = get_or s (b * block + 106) 0

-- the block behind it
unfoldable pub next_of : List ℕ → ℕ → ℕ
next_of s b = b + blocks_for (length_at s b)

-- the block with which record i + 1 begins
unfoldable pub start_of : List ℕ → ℕ → ℕ
start_of s zero = 1
start_of s (suc i) = next_of s (start_of s i)

-- no block is left for record i + 1
unfoldable pub at_end : List ℕ → ℕ → Bool
at_end s i = leb (last_block s) (start_of s i)

-- how many records there are, and one more than the limit where there are more
unfoldable pub records_in : List ℕ → ℕ
records_in s = least (at_end s) (limit + 1)

-- the evidence of record i + 1: its first byte, and how many
abbrev pub evidence_start : List ℕ → ℕ → ℕ
evidence_start s i = start_of s i * block + front

abbrev pub evidence_length : List ℕ → ℕ → ℕ
evidence_length s i = length_at s (start_of s i)

unfoldable pub evidence_in : List ℕ → ℕ → List ℕ
evidence_in s i = part (evidence_start s i) (evidence_length s i) s
