-- An evidence file taken apart: its date, its institution code, and of each record what a writer is given.
use Rattle.std.specs.Prelude.{ℕ, ◌+◌, ◌≤◌, ◌<◌, Bool, List, ◌++◌, ◌≡◌, length, drop}
use Rattle.laws.specs.Joined.{joined}
use Rattle.laws.specs.Part.{part}
use Rattle.answers.specs.Answers.{accepted}
use Rattle.evidence.specs.Blocks.{records_in, evidence_length}
use Rattle.evidence.specs.Judged.{byte_of}
use Rattle.evidence.specs.Reading.{read_of}
use Rattle.evidence_units.specs.Units.{items}
use Rattle.evidence_builder.specs.Units.{unit_of, units_in}
use Rattle.evidence_builder.specs.Files.{file_of}
use Rattle.evidence_writer.specs.Writing.{decided, write_told, write_after}

unfoldable pub date_in : List ℕ → List ℕ
date_in s = part 15 8 s

unfoldable pub code_in : List ℕ → List ℕ
code_in s = part 23 10 s

-- items 6 to 12 and the evidence of record i + 1; of all records, one behind the other
unfoldable pub unit_in : List ℕ → ℕ → List ℕ
unit_in s i = part (byte_of s i + 45) (items + evidence_length s i) s

unfoldable pub units_of : List ℕ → List ℕ
units_of s = joined (unit_in s) (records_in s)

-- what is written reads as accepted, and holds what was given
pub record Holds (exempt : Bool) (date code x s : List ℕ) : Type 0 where
  pub good : read_of exempt s ≡ accepted
  pub date-held : date_in s ≡ date
  pub code-held : code_in s ≡ code
  pub count : records_in s ≡ units_in x
  pub each : (i : ℕ) → i < units_in x → unit_in s i ≡ unit_of x i
  pub all : units_of s ≡ x

-- a file, taken apart, is accepted by the writer, which stores the same bytes at the front of any room that is long enough
pub record Again (exempt : Bool) (s : List ℕ) : Type 0 where
  pub good : decided exempt (date_in s) (code_in s) (units_of s) ≡ accepted
  pub same : file_of (date_in s) (code_in s) (units_of s) ≡ s
  pub told : (room : ℕ) → length s ≤ room → write_told exempt (date_in s) (code_in s) (units_of s) room ≡ accepted
  pub stored : (room : List ℕ) → length s ≤ length room → write_after exempt (date_in s) (code_in s) (units_of s) room ≡ s ++ drop (length s) room

-- it came of a file that is accepted
pub record Came (exempt : Bool) (date code x : List ℕ) : Type 0 where
  pub file : List ℕ
  pub good : read_of exempt file ≡ accepted
  pub date-of : date_in file ≡ date
  pub code-of : code_in file ≡ code
  pub units-of : units_of file ≡ x
