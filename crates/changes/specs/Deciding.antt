-- What is told of an EB11 and of the answers to it: its reading, then 50, 51, 52.
use Rattle.std.specs.Prelude.{ℕ, ◌+◌, Bool, cond, not, ◌&&◌, List, ltb, get_or}
use Rattle.answers.specs.declared.told.Answer.{Answer}
use Rattle.answers.specs.Answers.{accepted, refused_at, first_told, ◌then◌}
use Rattle.kinds.specs.Kinds.{EB11}
use Rattle.records.specs.Records.{data_of}
use Rattle.reader.specs.Reading.{read_as}
use Rattle.changes.specs.Halves.{changes, record_in, other_of}
use Rattle.changes.specs.Answers.{apart, answers_told}

-- record i + 1 has its other half in the file
unfoldable pub has_other : List ℕ → ℕ → Bool
has_other s i = ltb (other_of s i) (data_of EB11 s)

-- it says "CHNG" and has none
unfoldable pub lonely : List ℕ → ℕ → Bool
lonely s i = changes (record_in s i) && not (has_other s i)

-- it has one, whose answer is a yes where its own is a no, or a no where its own is a yes
unfoldable pub split : List ℕ → List ℕ → ℕ → Bool
split s answers i = has_other s i && apart (get_or answers i 0) (get_or answers (other_of s i) 0)

-- 50 and 52 at record i + 1, item 10
unfoldable pub lonely_told : List ℕ → ℕ → Answer
lonely_told s i = cond (lonely s i) (refused_at 50 (i + 1) 10 0x30303030) accepted

unfoldable pub split_told : List ℕ → List ℕ → ℕ → Answer
split_told s answers i = cond (split s answers i) (refused_at 52 (i + 1) 10 0x30303030) accepted

-- each at the first such record, and 51 between them
unfoldable pub answered_told : List ℕ → List ℕ → Answer
answered_told s answers =
    first_told (lonely_told s) (data_of EB11 s) then answers_told answers (data_of EB11 s) then first_told (split_told s answers) (data_of EB11 s)

unfoldable pub decided : List ℕ → List ℕ → Answer
decided s answers = read_as EB11 s then answered_told s answers
