-- What each answer of writing says: what is reported is the first, in the order of deciding, at which something is wrong.
use Rattle.std.specs.Prelude.{ℕ, ◌+◌, ◌≤◌, ◌<◌, Bool, true, false, List, ◌++◌, ◌≡◌, length, get_or}
use Rattle.laws.specs.Part.{part}
use Rattle.kinds.specs.Kinds.{limit}
use Rattle.tables.specs.Rows.{blank}
use Rattle.answers.specs.declared.told.Answer.{Answer}
use Rattle.answers.specs.Answers.{accepted, refused, refused_at}
use Rattle.evidence_rows.specs.Tables.{header_rows, data_rows}
use Rattle.layout.specs.Judging.{broken_at}
use Rattle.keys.specs.Keys.{repeats_in, Distinct}
use Rattle.evidence.specs.Blocks.{most_blocks, blocks_for}
use Rattle.evidence.specs.Judged.{length_good}
use Rattle.evidence.specs.Meets.{RowsHold}
use Rattle.evidence.specs.First.{Broken}
use Rattle.evidence_units.specs.Units.{items, sort_at, evidence_at}
use Rattle.evidence_units.specs.Frames.{SignedIf}
use Rattle.evidence_builder.specs.Units.{place_of, said_by, units_in, blocks_to}
use Rattle.evidence_builder.specs.Files.{header_block, record_front, file_of}
use Rattle.evidence_writer.specs.Writing.{key_of}
use Rattle.evidence_writer.specs.Given.{UnitGood, EachSigned, Given}

-- date and code have their lengths
pub record Parts (date code : List ℕ) : Type 0 where
  pub date-long : length date ≡ 8
  pub code-long : length code ≡ 10

-- the header to be written, and items 1 to 12 of record i + 1
abbrev pub header_for : List ℕ → List ℕ → List ℕ → List ℕ
header_for date code x = header_block date code (units_in x)

abbrev pub front_for : List ℕ → List ℕ → ℕ → List ℕ
front_for code x i = record_front code (i + 1) ++ part (place_of x i) items x

-- deciding came to unit i: date, code and header are good, and so is every unit before it
pub record Reached (exempt : Bool) (date code x : List ℕ) (i : ℕ) : Type 0 where
  pub parts : Parts date code
  pub header : RowsHold header_rows (header_for date code x) (header_for date code x) 0
  pub each : (k : ℕ) → k < i → UnitGood exempt (header_for date code x) code x k
  pub most : blocks_to x i ≤ most_blocks

-- there is such a unit, and it is not over the limit
pub record Met (exempt : Bool) (date code x : List ℕ) (i : ℕ) : Type 0 where
  pub reached : Reached exempt date code x i
  pub one : i < units_in x
  pub few : i < limit

-- its items are there; and hold; and its length is good
pub record There (exempt : Bool) (date code x : List ℕ) (i : ℕ) : Type 0 where
  pub met : Met exempt date code x i
  pub inside : place_of x i + items ≤ length x

pub record Held (exempt : Bool) (date code x : List ℕ) (i : ℕ) : Type 0 where
  pub there : There exempt date code x i
  pub rows : RowsHold (data_rows exempt) (front_for code x i) (header_for date code x) (i + 1)

pub record Long (exempt : Bool) (date code x : List ℕ) (i : ℕ) : Type 0 where
  pub held : Held exempt date code x i
  pub size : length_good exempt (sort_at x (place_of x i)) (said_by x i) ≡ true

pub data Says (exempt : Bool) (date code x : List ℕ) (room : ℕ) : Answer → Type 0 where
  -- 0: what is given meets every rule, and the room has the file's length
  good : Given exempt date code x → length (file_of date code x) ≤ room → Says exempt date code x room accepted
  -- 2: the date or the code is of another length
  date : (length date ≡ 8 → ⊥) → Says exempt date code x room (refused 2)
  code : length date ≡ 8 → (length code ≡ 10 → ⊥) → Says exempt date code x room (refused 2)
  -- 4: the first row of the header that does not hold
  header : (j : ℕ) → Parts date code → Broken header_rows (header_for date code x) (header_for date code x) 0 j →
      Says exempt date code x room (broken_at 0 (get_or header_rows j blank))
  -- 3: as many units as may be are good, and there is one more
  many : Reached exempt date code x limit → limit < units_in x → Says exempt date code x room (refused 3)
  -- 2: items 6 to 12 of unit i are not all there
  short : (i : ℕ) → Met exempt date code x i → length x < place_of x i + items → Says exempt date code x room (refused 2)
  -- 4: the first row of record i + 1 that does not hold
  row : (i j : ℕ) → There exempt date code x i → Broken (data_rows exempt) (front_for code x i) (header_for date code x) (i + 1) j →
      Says exempt date code x room (broken_at (i + 1) (get_or (data_rows exempt) j blank))
  -- 4: its items hold, and its length is not good
  size : (i : ℕ) → Held exempt date code x i → length_good exempt (sort_at x (place_of x i)) (said_by x i) ≡ false →
      Says exempt date code x room (refused_at 4 (i + 1) 12 0x30313033)
  -- 2: its length is good, and its evidence is not all there
  cut : (i : ℕ) → Long exempt date code x i → length x < place_of x i + (items + said_by x i) → Says exempt date code x room (refused 2)
  -- 3: its evidence is there, and the blocks are too many with its own
  blocks : (i : ℕ) → Long exempt date code x i → place_of x i + (items + said_by x i) ≤ length x →
      most_blocks < blocks_to x i + blocks_for (said_by x i) → Says exempt date code x room (refused 3)
  -- 7: all units are good, and unit i is the first whose items 6 to 9 are an earlier one's
  key : (i : ℕ) → Reached exempt date code x (units_in x) → units_in x ≤ limit → i < units_in x → repeats_in (key_of x) i ≡ true →
      ((m : ℕ) → m < i → repeats_in (key_of x) m ≡ false) → Says exempt date code x room (refused_at 7 (i + 1) 6 0x30303030)
  -- 22: no key is an earlier one's, and unit i is the first whose evidence is to be signed and has not the frame
  frame : (i : ℕ) → Reached exempt date code x (units_in x) → units_in x ≤ limit → Distinct (key_of x) (units_in x) → i < units_in x → EachSigned x i →
      (SignedIf (sort_at x (place_of x i)) (evidence_at x (place_of x i)) → ⊥) → Says exempt date code x room (refused_at 22 (i + 1) 13 0x30303030)
  -- 8: what is given meets every rule, and the room is shorter than the file
  room : Given exempt date code x → room < length (file_of date code x) → Says exempt date code x room (refused 8)
