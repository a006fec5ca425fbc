-- Call after call on one state and one room, and the file that was cut into parts.
use Rattle.std.specs.Prelude.{ℕ, ◌-◌, cond, List, [], ◌∷◌, map, leb, length, take, Option, Some, None}
use Rattle.kinds.specs.declared.of_files.Kind.{Kind}
use Rattle.answers.specs.declared.told.Answer.{Answer}
use Rattle.answers.specs.Answers.{accepted, refused, ◌then◌}
use Rattle.answers.specs.Storing.{at_front}
use Rattle.reader.specs.Reading.{length_tells, read_as}
use Rattle.arrival.specs.Counting.{counted}
use Rattle.arrival.specs.Arriving.{state_of, part_told, number_of, room_with, state_with}
use Rattle.arrival.specs.Ending.{end_told, state_ended}

-- what is lent
pub record Lent : Type 0 where
  pub state : List ℕ
  pub room : List ℕ

-- a part, or the end of a file of a kind
pub data Call : Type 0 where
  Part : List ℕ → Call
  End : ℕ → Call

-- the number that a call returns, and what is lent after it
unfoldable pub number_to : Call → Lent → ℕ
number_to (Call.Part p) l = number_of (part_told l.state)
number_to (Call.End kind) l = (end_told kind l.state l.room).number

unfoldable pub after_call : Call → Lent → Lent
after_call (Call.Part p) l = record { state = state_with l.state (length l.room) p; room = room_with l.state l.room p }
after_call (Call.End kind) l = record { state = state_ended l.state; room = l.room }

-- the same of calls one after the other
unfoldable pub after_calls : List Call → Lent → Lent
after_calls [] l = l
after_calls (c ∷ cs) l = after_calls cs (after_call c l)

unfoldable pub numbers_to : List Call → Lent → List ℕ
numbers_to [] l = []
numbers_to (c ∷ cs) l = number_to c l ∷ numbers_to cs (after_call c l)

-- before the first part
abbrev pub opened : List ℕ → Lent
opened room = record { state = state_of 0 0; room = room }

-- a file in parts, and what is lent after them
abbrev pub in_parts : List (List ℕ) → List Call
in_parts parts = map Call.Part parts

abbrev pub arrived : List ℕ → List (List ℕ) → Lent
arrived room parts = after_calls (in_parts parts) (opened room)

-- what the end then answers, and what is lent after it
abbrev pub end_after : ℕ → List ℕ → List (List ℕ) → Answer
end_after kind room parts = end_told kind (arrived room parts).state (arrived room parts).room

abbrev pub lent_after : ℕ → List ℕ → List (List ℕ) → Lent
lent_after kind room parts = after_call (Call.End kind) (arrived room parts)

-- what is lent once bytes have arrived: those for which there is room lie at its front, the others are counted
abbrev pub held : List ℕ → List ℕ → Lent
held room s =
    record { state = state_of (length (take (length room) s)) (counted (length s - length (take (length room) s))); room = at_front (take (length room) s) room }

-- what is told of joined bytes in a room: as by the reader, but for 8 after 1, 2 and 3 where they are more than it holds
abbrev pub read_inside : Option Kind → ℕ → List ℕ → Answer
read_inside (Some k) room s = length_tells k (length s) then cond (leb (length s) room) accepted (refused 8) then read_as k s
read_inside None room s = refused 1
