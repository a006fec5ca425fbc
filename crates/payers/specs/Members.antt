-- The board: its members one after the other, counted from 0.
use Rattle.std.specs.Prelude.{ℕ, cond, List, [], eqb, length, get_or}
use Rattle.laws.specs.Least.{least, number_in}
use Rattle.laws.specs.Sum.{sum}
use Rattle.answers.specs.declared.told.Answer.{Answer}
use Rattle.answers.specs.Answers.{accepted, refused_at}
use Rattle.keys.specs.Keys.{repeats_in}
use Rattle.payers.specs.declared.members.Member.{Member}

-- past the last member there is nobody
abbrev pub nobody : Member
nobody = record { payer = []; owed = 0; state = 0 }

unfoldable pub payer_on : List Member → ℕ → List ℕ
payer_on board k = (get_or board k nobody).payer

unfoldable pub owed_on : List Member → ℕ → ℕ
owed_on board k = (get_or board k nobody).owed

-- what all members owe
unfoldable pub owed_in_all : List Member → ℕ
owed_in_all board = sum (owed_on board) (length board)

-- the first member that has an earlier one's payer; as many as there are where none has
unfoldable pub repeat_on : List Member → ℕ
repeat_on board = least (repeats_in (payer_on board)) (length board)

-- its number, from 1; 0 where there is none
unfoldable pub repeat_number : List Member → ℕ
repeat_number board = number_in (length board) (repeat_on board)

-- 43: payers differ from each other
unfoldable pub repeat_tells : ℕ → Answer
repeat_tells number = cond (eqb number 0) accepted (refused_at 43 number 0 0x30303030)
