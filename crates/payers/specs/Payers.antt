-- Requests by their payers: `key i` is the payer of request i + 1 of n, and `won i` is what was taken of it.
use Rattle.std.specs.Prelude.{ℕ, ◌+◌, ◌-◌, Bool, cond, List, map, eqb, ltb, leb, length}
use Rattle.laws.specs.Least.{some}
use Rattle.laws.specs.Sum.{sum}
use Rattle.answers.specs.declared.told.Answer.{Answer}
use Rattle.answers.specs.Answers.{accepted, refused_at, first_told}
use Rattle.keys.specs.Keys.{has_key_in, place_in}
use Rattle.payers.specs.declared.members.Member.{Member}
use Rattle.payers.specs.Members.{payer_on, owed_on}

-- some request names the payer
unfoldable pub named : (ℕ → List ℕ) → ℕ → List ℕ → Bool
named key n payer = some (has_key_in key payer) n

-- what was taken of request i + 1 where it names the payer, and of all its requests
unfoldable pub won_from : (ℕ → List ℕ) → (ℕ → ℕ) → List ℕ → ℕ → ℕ
won_from key won payer i = cond (has_key_in key payer i) (won i) 0

unfoldable pub taken_from : (ℕ → List ℕ) → (ℕ → ℕ) → ℕ → List ℕ → ℕ
taken_from key won n payer = sum (won_from key won payer) n

-- running, 1, where nothing is owed; else paused, 0
unfoldable pub state_of : ℕ → ℕ
state_of owed = cond (eqb owed 0) 1 0

-- a member of whom so much was taken
abbrev pub settled : Member → ℕ → Member
settled m won = record { payer = m.payer; owed = m.owed - won; state = state_of (m.owed - won) }

-- a member after the posting: as it was where no request names it
unfoldable pub member_after : (ℕ → List ℕ) → (ℕ → ℕ) → ℕ → Member → Member
member_after key won n m = cond (named key n m.payer) (settled m (taken_from key won n m.payer)) m

unfoldable pub members_after : (ℕ → List ℕ) → (ℕ → ℕ) → ℕ → List Member → List Member
members_after key won n board = map (member_after key won n) board

-- 42: more was taken of a payer than it owes
unfoldable pub over_number : ℕ → ℕ → ℕ
over_number won owed = cond (leb won owed) 0 42

-- what is told of request i + 1, as a number: 41, its payer is not on the board; 42, by the payer's whole sum; or 0
unfoldable pub member_of : List Member → List ℕ → ℕ
member_of board payer = place_in (payer_on board) (length board) payer

unfoldable pub due_number : (ℕ → List ℕ) → (ℕ → ℕ) → ℕ → List Member → ℕ → ℕ
due_number key won n board i =
    cond (ltb (member_of board (key i)) (length board)) (over_number (taken_from key won n (key i)) (owed_on board (member_of board (key i)))) 41

-- as an answer, at the payer, item 11
unfoldable pub due_tells : ℕ → ℕ → Answer
due_tells i number = cond (eqb number 0) accepted (refused_at number (i + 1) 11 0x30303030)

unfoldable pub dues_tell_at : (ℕ → List ℕ) → (ℕ → ℕ) → ℕ → List Member → ℕ → Answer
dues_tell_at key won n board i = due_tells i (due_number key won n board i)

-- the first request that is told something
unfoldable pub dues_tell : (ℕ → List ℕ) → (ℕ → ℕ) → ℕ → List Member → Answer
dues_tell key won n board = first_told (dues_tell_at key won n board) n
