-- A part of a file, cut anywhere: its bytes lie in lent room as far as they fit, and the state is two numbers.
use Rattle.std.specs.Prelude.{ℕ, ◌+◌, ◌-◌, Bool, cond, Result, Ok, Err, List, [], ◌∷◌, eqb, length, get_or, take}
use Rattle.laws.specs.Stored.{stored}
use Rattle.answers.specs.declared.told.Answer.{Answer}
use Rattle.answers.specs.declared.refusing.Refusal.{Refusal}
use Rattle.answers.specs.Answers.{accepted, refused}
use Rattle.answers.specs.Refusing.{told_by}
use Rattle.arrival.specs.Counting.{counted}

-- a state: how many bytes lie in the room, and how many came past it, as they are counted
abbrev pub state_of : ℕ → ℕ → List ℕ
state_of kept past = kept ∷ past ∷ []

abbrev pub kept_in : List ℕ → ℕ
kept_in state = get_or state 0 0

abbrev pub past_in : List ℕ → ℕ
past_in state = get_or state 1 0

-- after the end the second number is one that no bytes are counted by
abbrev pub ended : ℕ
ended = 0xFFFFFFFFFFFFFFFF

unfoldable pub has_ended : List ℕ → Bool
has_ended state = eqb (past_in state) ended

-- what is told of a part: more may come, or the end has come before
pub data PartTold : Type 0 where
  More : PartTold
  Ended : PartTold

-- nothing of the file
unfoldable pub part_told : List ℕ → PartTold
part_told state = cond (has_ended state) Ended More

-- as a number: 10 is "more", 9 a part after the end
abbrev pub number_of : PartTold → ℕ
number_of More = 10
number_of Ended = 9

-- as a result: only a part after the end is refused
abbrev pub answered : PartTold → Answer
answered More = accepted
answered Ended = refused 9

-- the number that a result is answered
abbrev pub number_by : {A : Type 0} → Result A Refusal → ℕ
number_by (Ok a) = 10
number_by (Err r) = (told_by r).number

-- the bytes of a part for which there is room
abbrev pub fitting : List ℕ → ℕ → List ℕ → List ℕ
fitting state room part = take (room - kept_in state) part

-- the room after a part: it lies behind those before it, as far as it fits
unfoldable pub room_with : List ℕ → List ℕ → List ℕ → List ℕ
room_with state room part = cond (has_ended state) room (stored (kept_in state) (fitting state (length room) part) room)

-- the state after a part
unfoldable pub state_with : List ℕ → ℕ → List ℕ → List ℕ
state_with state room part =
    cond (has_ended state) state
    (state_of (kept_in state + length (fitting state room part)) (counted (past_in state + (length part - length (fitting state room part)))))
