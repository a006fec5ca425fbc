-- What answering an EB11 says, and what is stored.
use Rattle.std.specs.Prelude.{ℕ, List, length}
use Rattle.answers.specs.declared.told.Answer.{Answer}
use Rattle.answers.specs.Storing.{Stored, room_tells, unless_refused, storing, at_front}
use Rattle.answers.specs.Answers.{◌then◌}
use Rattle.changes.specs.Deciding.{decided}
use Rattle.changes_writer.specs.Building.{file_for}

-- as the answers are decided, then 8 where the room is shorter than the file
unfoldable pub write_told : List ℕ → List ℕ → ℕ → Answer
write_told s answers room = decided s answers then room_tells (file_for s answers) room

-- what is stored: the file; nothing when refused
unfoldable pub written : List ℕ → List ℕ → ℕ → List ℕ
written s answers room = unless_refused (write_told s answers room) (file_for s answers)

-- the answer with the length of the file, and what the room holds after it
unfoldable pub write_of : List ℕ → List ℕ → ℕ → Stored
write_of s answers room = storing (write_told s answers room) (written s answers room)

unfoldable pub room_after : List ℕ → List ℕ → List ℕ → List ℕ
room_after s answers room = at_front (written s answers (length room)) room
