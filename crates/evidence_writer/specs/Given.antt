-- What a writer accepts, with nothing said of the order in which it decides.
use Rattle.std.specs.Prelude.{ℕ, ◌+◌, ◌≤◌, ◌<◌, Bool, true, List, ◌++◌, ◌≡◌, length}
use Rattle.laws.specs.Part.{part}
use Rattle.kinds.specs.Kinds.{limit}
use Rattle.keys.specs.Keys.{Distinct}
use Rattle.evidence_rows.specs.Tables.{header_rows, data_rows}
use Rattle.evidence.specs.Blocks.{most_blocks}
use Rattle.evidence.specs.Judged.{length_good}
use Rattle.evidence.specs.Meets.{RowsHold}
use Rattle.evidence_units.specs.Units.{items, sort_at, evidence_at}
use Rattle.evidence_units.specs.Frames.{SignedIf}
use Rattle.evidence_builder.specs.Units.{place_of, said_by, units_in, blocks_to}
use Rattle.evidence_builder.specs.Files.{header_block, record_front}
use Rattle.evidence_writer.specs.Writing.{key_of}

-- unit i, as record i + 1: its items by their rows, a length that is good for the kind, and all of its evidence
pub record UnitGood (exempt : Bool) (header code x : List ℕ) (i : ℕ) : Type 0 where
  pub rows : RowsHold (data_rows exempt) (record_front code (i + 1) ++ part (place_of x i) items x) header (i + 1)
  pub size : length_good exempt (sort_at x (place_of x i)) (said_by x i) ≡ true
  pub inside : place_of x i + (items + said_by x i) ≤ length x

-- evidence of the first n units that is to be signed has the frame
abbrev pub EachSigned : List ℕ → ℕ → Type 0
EachSigned x n = (i : ℕ) → i < n → SignedIf (sort_at x (place_of x i)) (evidence_at x (place_of x i))

pub record Given (exempt : Bool) (date code x : List ℕ) : Type 0 where
  pub date-long : length date ≡ 8
  pub code-long : length code ≡ 10
  pub header : RowsHold header_rows (header_block date code (units_in x)) (header_block date code (units_in x)) 0
  pub few : units_in x ≤ limit
  pub each : (i : ℕ) → i < units_in x → UnitGood exempt (header_block date code (units_in x)) code x i
  pub most : blocks_to x (units_in x) ≤ most_blocks
  pub keys : Distinct (key_of x) (units_in x)
  pub signed : EachSigned x (units_in x)
