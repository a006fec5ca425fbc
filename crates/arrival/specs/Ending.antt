-- The end of a file that came in parts: 9, 1, 2, 3, 8, and then as reading what lies in the room.
use Rattle.std.specs.Prelude.{ℕ, ◌+◌, cond, ◌&&◌, List, eqb, leb, length, take, Option, Some, None}
use Rattle.answers.specs.declared.told.Answer.{Answer}
use Rattle.answers.specs.Answers.{accepted, refused, ◌then◌}
use Rattle.kinds.specs.declared.of_files.Kind.{Kind}
use Rattle.kinds.specs.Kinds.{kind_of}
use Rattle.reader.specs.Reading.{length_tells, read_as}
use Rattle.arrival.specs.Counting.{counted}
use Rattle.arrival.specs.Arriving.{state_of, kept_in, past_in, ended, has_ended}

-- 8: something came past the room, or the room is shorter than what lay in it
unfoldable pub room_tells : ℕ → ℕ → ℕ → Answer
room_tells kept past room = cond (eqb past 0 && leb kept room) accepted (refused 8)

-- the end of a file of a kind: its length, the room, and then what the reader tells
unfoldable pub end_as : Kind → ℕ → ℕ → List ℕ → Answer
end_as k kept past room = length_tells k (counted (kept + past)) then room_tells kept past (length room) then read_as k (take kept room)

-- 1: the kind is unknown
abbrev pub end_named : Option Kind → ℕ → ℕ → List ℕ → Answer
end_named (Some k) kept past room = end_as k kept past room
end_named None kept past room = refused 1

-- 9: the end has come before
unfoldable pub end_told : ℕ → List ℕ → List ℕ → Answer
end_told kind state room = cond (has_ended state) (refused 9) (end_named (kind_of kind) (kept_in state) (past_in state) room)

-- the state after the end
unfoldable pub state_ended : List ℕ → List ℕ
state_ended state = cond (has_ended state) state (state_of (kept_in state) ended)
