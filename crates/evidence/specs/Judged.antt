-- Each record of an evidence file against its rows, its length and its filler.
use Rattle.std.specs.Prelude.{ℕ, ◌+◌, ◌-◌, ◌*◌, Bool, cond, ◌&&◌, List, leb, ltb, eqb}
use Rattle.laws.specs.Least.{least}
use Rattle.laws.specs.Part.{part}
use Rattle.text.specs.Characters.{spaces}
use Rattle.answers.specs.declared.told.Answer.{Answer}
use Rattle.answers.specs.Answers.{accepted, refused, refused_at, refuses_at, first_told, ◌then◌}
use Rattle.kinds.specs.declared.of_files.Own.{Own}
use Rattle.kinds.specs.Kinds.{limit, own}
use Rattle.evidence_kinds.specs.Evidence.{most_of}
use Rattle.evidence_rows.specs.Tables.{header_rows, data_rows, trailer_rows}
use Rattle.layout.specs.Judging.{judge_by}
use Rattle.evidence.specs.Blocks.{block, front, blocks_for, last_block, block_at, length_at, kind_at, next_of, start_of, records_in}

-- no rule of these rows asks for a kind's own name or least amount
abbrev pub no_own : Own
no_own = own 0 0

-- so many bytes may be evidence of the kind: some, and no more than its size; of a partly exempt institution none
unfoldable pub length_good : Bool → ℕ → ℕ → Bool
length_good exempt kind length = cond exempt (eqb length 0) (ltb 0 length && leb length (most_of kind))

-- what is told of the header, block 0
unfoldable pub header_told : List ℕ → Answer
header_told s = judge_by no_own header_rows (block_at s 0) (block_at s 0) 0

-- of record n, which begins with block b: its items 1 to 12, then its length, which must end before the last block, then its filler
unfoldable pub items_told : Bool → List ℕ → ℕ → ℕ → Answer
items_told exempt s b n = judge_by no_own (data_rows exempt) (part (b * block) front s) (block_at s 0) n

unfoldable pub length_told : Bool → List ℕ → ℕ → ℕ → Answer
length_told exempt s b n =
    cond (length_good exempt (kind_at s b) (length_at s b) && leb (next_of s b) (last_block s)) accepted (refused_at 4 n 12 0x30313033)

-- the bytes behind the evidence, up to the end of its last block
unfoldable pub filler_at : List ℕ → ℕ → List ℕ
filler_at s b = part (b * block + (front + length_at s b)) (blocks_for (length_at s b) * block - (front + length_at s b)) s

unfoldable pub filler_told : List ℕ → ℕ → ℕ → Answer
filler_told s b n = cond (spaces (filler_at s b)) accepted (refused_at 4 n 14 0x30303839)

unfoldable pub block_told : Bool → List ℕ → ℕ → ℕ → Answer
block_told exempt s b n = items_told exempt s b n then (length_told exempt s b n then filler_told s b n)

-- of record i + 1 when it is met: the limit's next one is 3, before any of its items
unfoldable pub record_told : Bool → List ℕ → ℕ → Answer
record_told exempt s i = cond (eqb i limit) (refused 3) (block_told exempt s (start_of s i) (i + 1))

unfoldable pub records_told : Bool → List ℕ → Answer
records_told exempt s = first_told (record_told exempt s) (records_in s)

-- how many records are good before the first that is refused
unfoldable pub good_to : Bool → List ℕ → ℕ
good_to exempt s = least (refuses_at (record_told exempt s)) (records_in s)

-- the first byte of record i + 1
unfoldable pub byte_of : List ℕ → ℕ → ℕ
byte_of s i = start_of s i * block

-- and of its unit: item 6
unfoldable pub unit_byte : List ℕ → ℕ → ℕ
unit_byte s i = byte_of s i + 45

-- of the trailer, the last block: record n + 1
unfoldable pub trailer_told : List ℕ → Answer
trailer_told s = judge_by no_own trailer_rows (block_at s (last_block s)) (block_at s 0) (records_in s + 1)
