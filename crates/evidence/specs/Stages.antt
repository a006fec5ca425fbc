-- What each stage of reading finds good, said of the bytes where the walk meets them.
use Rattle.std.specs.Prelude.{ℕ, ◌+◌, ◌*◌, ◌≤◌, ◌<◌, Bool, true, List, ◌≡◌, length}
use Rattle.laws.specs.Part.{part}
use Rattle.text.specs.Characters.{spaces}
use Rattle.numbers.specs.Numbers.{says}
use Rattle.kinds.specs.Kinds.{limit}
use Rattle.keys.specs.Keys.{Distinct}
use Rattle.evidence_units.specs.Frames.{SignedIf}
use Rattle.evidence_rows.specs.Tables.{header_rows, data_rows, trailer_rows}
use Rattle.evidence.specs.Blocks.{block, front, most_blocks, blocks_in, last_block, data_blocks, block_at, length_at, kind_at, next_of, start_of, records_in, evidence_in}
use Rattle.evidence.specs.Judged.{length_good, filler_at}
use Rattle.evidence.specs.Reading.{key_of}
use Rattle.evidence.specs.Meets.{RowsHold}

-- whole blocks, a header and a trailer at least, and not too many
pub record Sizes (s : List ℕ) : Type 0 where
  pub whole : length s ≡ blocks_in s * block
  pub fewest : 2 ≤ blocks_in s
  pub most : blocks_in s ≤ most_blocks + 2

-- record n, which begins with block b
pub record Good (exempt : Bool) (s : List ℕ) (b n : ℕ) : Type 0 where
  pub rows : RowsHold (data_rows exempt) (part (b * block) front s) (block_at s 0) n
  pub size : length_good exempt (kind_at s b) (length_at s b) ≡ true
  pub inside : next_of s b ≤ last_block s
  pub filler : spaces (filler_at s b) ≡ true

-- the first n records
abbrev pub Each : Bool → List ℕ → ℕ → Type 0
Each exempt s n = (i : ℕ) → i < n → Good exempt s (start_of s i) (i + 1)

-- the counts
pub record Counts (s : List ℕ) : Type 0 where
  pub header : says (part 43 7 (block_at s 0)) (records_in s) ≡ true
  pub trailer : says (part 35 7 (block_at s (last_block s))) (records_in s) ≡ true
  pub blocks : says (part 42 10 (block_at s (last_block s))) (data_blocks s) ≡ true

-- evidence of the first n records that is to be signed has the frame
abbrev pub EachSigned : List ℕ → ℕ → Type 0
EachSigned s n = (i : ℕ) → i < n → SignedIf (kind_at s (start_of s i)) (evidence_in s i)

pub record Stages (exempt : Bool) (s : List ℕ) : Type 0 where
  pub sizes : Sizes s
  pub header : RowsHold header_rows (block_at s 0) (block_at s 0) 0
  pub few : records_in s ≤ limit
  pub each : Each exempt s (records_in s)
  pub trailer : RowsHold trailer_rows (block_at s (last_block s)) (block_at s 0) (records_in s + 1)
  pub counts : Counts s
  pub keys : Distinct (key_of s) (records_in s)
  pub signed : EachSigned s (records_in s)
