-- What is stored at the front of lent room, and what is told of it.
use Rattle.std.specs.Prelude.{ℕ, Result, Ok, Err, cond, List, [], ◌++◌, leb, length, drop}
use Rattle.answers.specs.declared.told.Answer.{Answer}
use Rattle.answers.specs.declared.refusing.Refusal.{Refusal}
use Rattle.answers.specs.Answers.{accepted, refused, refuses}
use Rattle.answers.specs.Refusing.{told_by}

-- an answer, and how many bytes were stored at the front of lent room; none when refused
pub record Stored : Type 0 where
  pub answer : Answer
  pub size : ℕ

-- what a result says that is the number of bytes stored
abbrev pub stored_by : Result ℕ Refusal → Stored
stored_by (Ok size) = record { answer = accepted; size = size }
stored_by (Err r) = record { answer = told_by r; size = 0 }

-- 8: the room is shorter than what is to be stored
unfoldable pub room_tells : List ℕ → ℕ → Answer
room_tells bytes room = cond (leb (length bytes) room) accepted (refused 8)

-- what is stored: nothing when refused
unfoldable pub unless_refused : Answer → List ℕ → List ℕ
unless_refused answer bytes = cond (refuses answer) [] bytes

-- an answer with the length of what is stored
abbrev pub storing : Answer → List ℕ → Stored
storing answer bytes = record { answer = answer; size = length bytes }

-- room with bytes stored at its front
abbrev pub at_front : List ℕ → List ℕ → List ℕ
at_front bytes room = bytes ++ drop (length bytes) room
