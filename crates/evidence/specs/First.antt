-- What each answer of reading says: the place reported is the first, in the order of reading, at which something is wrong.
use Rattle.std.specs.Prelude.{ℕ, ◌+◌, ◌*◌, ◌≤◌, ◌<◌, Bool, true, false, List, ◌≡◌, length, get_or}
use Rattle.laws.specs.Part.{part}
use Rattle.text.specs.Characters.{spaces}
use Rattle.numbers.specs.Numbers.{says}
use Rattle.kinds.specs.Kinds.{limit}
use Rattle.tables.specs.declared.row.Row.{Row}
use Rattle.tables.specs.Rows.{blank}
use Rattle.answers.specs.declared.told.Answer.{Answer}
use Rattle.answers.specs.Answers.{accepted, refused, refused_at}
use Rattle.evidence_rows.specs.Tables.{header_rows, data_rows, trailer_rows}
use Rattle.layout.specs.Rules.{holds}
use Rattle.layout.specs.Judging.{broken_at}
use Rattle.keys.specs.Keys.{repeats_in, Distinct}
use Rattle.evidence_units.specs.Frames.{SignedIf}
use Rattle.evidence.specs.Blocks.{block, front, most_blocks, blocks_in, last_block, data_blocks, block_at, length_at, kind_at, next_of, start_of, records_in, evidence_in}
use Rattle.evidence.specs.Judged.{no_own, length_good, filler_at}
use Rattle.evidence.specs.Reading.{is_whole, key_of}
use Rattle.evidence.specs.Meets.{RowsHold, Meets}
use Rattle.evidence.specs.Stages.{Sizes, Each, Counts, EachSigned}

-- row j does not hold in record n, and every row before it does
pub record Broken (rows : List Row) (rec header : List ℕ) (n j : ℕ) : Type 0 where
  pub below : j < length rows
  pub broken : holds no_own rec header n (get_or rows j blank) ≡ false
  pub before : (i : ℕ) → i < j → holds no_own rec header n (get_or rows i blank) ≡ true

-- reading came to record i + 1: size and header are good, and so is every record before it
pub record Came (exempt : Bool) (s : List ℕ) (i : ℕ) : Type 0 where
  pub sizes : Sizes s
  pub header : RowsHold header_rows (block_at s 0) (block_at s 0) 0
  pub each : Each exempt s i

-- there is such a record, and it is not over the limit
pub record Met (exempt : Bool) (s : List ℕ) (i : ℕ) : Type 0 where
  pub came : Came exempt s i
  pub one : i < records_in s
  pub few : i < limit

-- its items 1 to 12 hold too
pub record Held (exempt : Bool) (s : List ℕ) (i : ℕ) : Type 0 where
  pub met : Met exempt s i
  pub rows : RowsHold (data_rows exempt) (part (start_of s i * block) front s) (block_at s 0) (i + 1)

-- all records are good, and the trailer
pub record Closed (exempt : Bool) (s : List ℕ) : Type 0 where
  pub came : Came exempt s (records_in s)
  pub few : records_in s ≤ limit
  pub trailer : RowsHold trailer_rows (block_at s (last_block s)) (block_at s 0) (records_in s + 1)

pub data Says (exempt : Bool) (s : List ℕ) : Answer → Type 0 where
  -- 0: the file meets every rule
  good : Meets exempt s → Says exempt s accepted
  -- 2: no whole number of blocks, or fewer than two
  short : is_whole s ≡ false → Says exempt s (refused 2)
  -- 3: too many blocks
  long : is_whole s ≡ true → most_blocks + 2 < blocks_in s → Says exempt s (refused 3)
  -- 4, 5: the first row of the header that does not hold
  header : (j : ℕ) → Sizes s → Broken header_rows (block_at s 0) (block_at s 0) 0 j → Says exempt s (broken_at 0 (get_or header_rows j blank))
  -- 3: as many records as may be are good, and there is one more
  many : Came exempt s limit → limit < records_in s → Says exempt s (refused 3)
  -- 4, 5: the first row of record i + 1 that does not hold
  row : (i j : ℕ) → Met exempt s i → Broken (data_rows exempt) (part (start_of s i * block) front s) (block_at s 0) (i + 1) j →
      Says exempt s (broken_at (i + 1) (get_or (data_rows exempt) j blank))
  -- 4: its items hold, and its length is not good, or its blocks would reach past the data blocks
  size : (i : ℕ) → Held exempt s i → length_good exempt (kind_at s (start_of s i)) (length_at s (start_of s i)) ≡ false →
      Says exempt s (refused_at 4 (i + 1) 12 0x30313033)
  past : (i : ℕ) → Held exempt s i → last_block s < next_of s (start_of s i) → Says exempt s (refused_at 4 (i + 1) 12 0x30313033)
  -- 4: its length is good too, and something but spaces stands behind its evidence
  filler : (i : ℕ) → Held exempt s i → length_good exempt (kind_at s (start_of s i)) (length_at s (start_of s i)) ≡ true →
      next_of s (start_of s i) ≤ last_block s → spaces (filler_at s (start_of s i)) ≡ false → Says exempt s (refused_at 4 (i + 1) 14 0x30303839)
  -- 4, 5: all records are good, and the first row of the trailer that does not hold
  trailer : (j : ℕ) → Came exempt s (records_in s) → records_in s ≤ limit →
      Broken trailer_rows (block_at s (last_block s)) (block_at s 0) (records_in s + 1) j →
      Says exempt s (broken_at (records_in s + 1) (get_or trailer_rows j blank))
  -- 6: the header does not say how many records there are; or the trailer does not; or not how many blocks
  header-count : Closed exempt s → says (part 43 7 (block_at s 0)) (records_in s) ≡ false → Says exempt s (refused_at 6 0 6 0x30303030)
  trailer-count : Closed exempt s → says (part 43 7 (block_at s 0)) (records_in s) ≡ true →
      says (part 35 7 (block_at s (last_block s))) (records_in s) ≡ false → Says exempt s (refused_at 6 (records_in s + 1) 5 0x30303030)
  trailer-blocks : Closed exempt s → says (part 43 7 (block_at s 0)) (records_in s) ≡ true →
      says (part 35 7 (block_at s (last_block s))) (records_in s) ≡ true →
      says (part 42 10 (block_at s (last_block s))) (data_blocks s) ≡ false → Says exempt s (refused_at 6 (records_in s + 1) 6 0x30303030)
  -- 7: the counts are right too, and record i + 1 is the first that repeats an earlier key
  key : (i : ℕ) → Closed exempt s → Counts s → i < records_in s → repeats_in (key_of s) i ≡ true →
      ((m : ℕ) → m < i → repeats_in (key_of s) m ≡ false) → Says exempt s (refused_at 7 (i + 1) 6 0x30303030)
  -- 22: no key is an earlier one's, and record i + 1 is the first whose evidence is to be signed and has not the frame
  frame : (i : ℕ) → Closed exempt s → Counts s → Distinct (key_of s) (records_in s) → i < records_in s → EachSigned s i →
      (SignedIf (kind_at s (start_of s i)) (evidence_in s i) → ⊥) → Says exempt s (refused_at 22 (i + 1) 13 0x30303030)
