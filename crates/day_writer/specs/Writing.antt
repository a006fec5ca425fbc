-- Writing a day file from names of eight bytes one behind the other, a length for each, and the bodies one behind the other.
use Rattle.std.specs.Prelude.{ℕ, ◌*◌, Bool, cond, ◌&&◌, List, leb, eqb, length}
use Rattle.laws.specs.Least.{none}
use Rattle.laws.specs.Part.{part}
use Rattle.answers.specs.declared.of_day.DayAnswer.{DayAnswer}
use Rattle.answers.specs.OfDay.{DayTold, day_accepted, bad_contents, short_room, day_refuses, counting}
use Rattle.answers.specs.Storing.{at_front}
use Rattle.day.specs.Contents.{most, length_end}
use Rattle.day.specs.Bodies.{size_at, list_told}
use Rattle.day.specs.Meets.{file_of}

-- the name of body i + 1
unfoldable pub name_of : List ℕ → ℕ → List ℕ
name_of names i = part (i * 8) 8 names

-- n names, at most 16; and a length that six digits do not say
unfoldable pub names_good : List ℕ → ℕ → Bool
names_good names n = leb n most && eqb (length names) (n * 8)

unfoldable pub too_long : List ℕ → ℕ → Bool
too_long lengths i = leb length_end (size_at lengths i)

-- 30 unless there is a name for each length, and no length is too long
unfoldable pub given_good : List ℕ → List ℕ → Bool
given_good names lengths = names_good names (length lengths) && none (too_long lengths) (length lengths)

-- then 31, 32 and 33, as in reading
unfoldable pub decided : List ℕ → List ℕ → List ℕ → DayAnswer
decided names lengths bodies =
    cond (given_good names lengths) (list_told (name_of names) (size_at lengths) (length lengths) bodies) bad_contents

-- the file to be written
unfoldable pub file_for : List ℕ → List ℕ → List ℕ → List ℕ
file_for names lengths bodies = file_of (name_of names) (size_at lengths) (length lengths) bodies

-- 8 last
unfoldable pub write_told : List ℕ → List ℕ → List ℕ → ℕ → DayAnswer
write_told names lengths bodies room =
    cond (day_refuses (decided names lengths bodies)) (decided names lengths bodies)
    (cond (leb (length (file_for names lengths bodies)) room) day_accepted short_room)

-- with how long the file is that was stored, 0 when refused
unfoldable pub write_of : List ℕ → List ℕ → List ℕ → ℕ → DayTold
write_of names lengths bodies room = counting (write_told names lengths bodies room) (length (file_for names lengths bodies))

-- the room afterwards: the file at its front, and as it was when refused
unfoldable pub write_after : List ℕ → List ℕ → List ℕ → List ℕ → List ℕ
write_after names lengths bodies room =
    cond (day_refuses (write_told names lengths bodies (length room))) room (at_front (file_for names lengths bodies) room)
