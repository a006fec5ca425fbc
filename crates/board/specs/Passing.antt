-- The passes over the board: what they ask of the memory that is lent for them, and what they leave.
use Rattle.std.specs.Prelude.{ℕ, ◌+◌, ◌*◌, ◌≤◌, ◌<◌, cond, ltb, List, ◌≡◌, length, get_or}
use Rattle.kinds.specs.Kinds.{limit}
use Rattle.keys.specs.Chains.{slots, no_links}
use Rattle.payers.specs.declared.members.Member.{Member}
use Rattle.payers.specs.Members.{repeat_number}
use Rattle.payers.specs.Payers.{due_number}
use Rattle.payers.specs.Turns.{held, dues_key, listed}

-- how long the links and the room are that are lent, as numbers: for every slot and every payer that is held or every request,
-- whichever may be more, and for these payers
abbrev pub links_lent : ℕ
links_lent = 4051 + cond (ltb 2048 limit) limit 2048

abbrev pub room_lent : ℕ
room_lent = 20 * 2048

-- to look for a payer that repeats: no payer is held yet
pub record SeekBegins (links room : List ℕ) : Type 0 where
  pub links-room : slots + held ≤ length links
  pub held-room : 20 * held ≤ length room
  pub none : links ≡ no_links links

-- on a board whose payers differ, the mark of each request that had 41 is now what is told of it
abbrev pub Marks : ℕ → List Member → List ℕ → List ℕ → List ℕ → List ℕ → Type 0
Marks n board request taken room room' =
    repeat_number board ≡ 0 → (i : ℕ) → i < n → get_or room i 0 ≡ 41 → get_or room' i 0 ≡ due_number (dues_key request) (listed taken) n board i
