-- One member in a pass over the board: what is asked of the memory that is lent for it, and what comes of it.
use Rattle.std.specs.Prelude.{ℕ, ◌+◌, ◌-◌, ◌*◌, ◌≤◌, ◌<◌, ◌^◌, Bool, cond, not, ◌&&◌, List, [], ltb, leb, length, get_or, Option, Some, None}
use Rattle.laws.specs.Tabulate.{tabulate}
use Rattle.laws.specs.Stored.{stored}
use Rattle.keys.specs.declared.stands.Spacing.{Spacing}
use Rattle.keys.specs.Keys.{has_key_in}
use Rattle.keys.specs.Stands.{key_in, Inside}
use Rattle.keys.specs.Chains.{slots, last, Chained, links_with, no_links}
use Rattle.tables.specs.Places.{payer_place}
use Rattle.payers.specs.declared.members.Member.{Member}
use Rattle.payers.specs.declared.turns.Place.{Place}
use Rattle.payers.specs.Payers.{taken_from, member_after, over_number}

-- how many payers are held at a time
unfoldable pub held : ℕ
held = 2048

-- where the held payers stand, one behind the other, and where those of debit requests do
abbrev pub held_spacing : Spacing
held_spacing = record { stride = 20; offset = 0; size = 20 }

abbrev pub payer_spacing : Spacing
payer_spacing = record { stride = 150; offset = 150 + payer_place.1; size = 20 }

unfoldable pub held_key : List ℕ → ℕ → List ℕ
held_key room i = key_in [] held_spacing room i

unfoldable pub dues_key : List ℕ → ℕ → List ℕ
dues_key request i = key_in [] payer_spacing request i

unfoldable pub listed : List ℕ → ℕ → ℕ
listed taken i = get_or taken i 0

abbrev pub placed : ℕ → ℕ → ℕ → Place
placed from at end = record { from = from; at = at; end = end }

-- the number of member k of so many, counted from 1; none where there are no more than k
unfoldable pub member_in : ℕ → ℕ → Option ℕ
member_in many k = cond (ltb k many) (Some (k + 1)) None

-- Seek: members `from` on are held, as many as there is room for, and members up to `end` are compared with them

-- how many are held before member `at` is looked at
unfoldable pub held_in : Place → ℕ
held_in p = cond (leb held (p.at - p.from)) held (p.at - p.from)

-- the payer is one of them
unfoldable pub seen : Place → List ℕ → List ℕ → Bool
seen p payer room = ltb 0 (last (has_key_in (held_key room) payer) (held_in p))

-- a payer that was seen: nothing past it matters; else it is held if there is room
unfoldable pub holds : Place → List ℕ → List ℕ → Bool
holds p payer room = not (seen p payer room) && ltb (p.at - p.from) held

unfoldable pub moved_on : Place → List ℕ → List ℕ → Place
moved_on p payer room = cond (seen p payer room) (placed p.from p.at p.at) (placed p.from (p.at + 1) p.end)

-- at the end the next members are held, if there are more
unfoldable pub goes_on : Place → Bool
goes_on p = not (ltb p.at p.end) && ltb held (p.end - p.from)

unfoldable pub next_in : Place → Place
next_in p = cond (goes_on p) (placed (p.from + held) (p.from + held) p.end) p

unfoldable pub sought_place : Place → List ℕ → List ℕ → Place
sought_place p payer room = next_in (moved_on p payer room)

unfoldable pub sought_room : Place → List ℕ → List ℕ → List ℕ
sought_room p payer room = cond (holds p payer room) (stored (20 * held_in p) payer room) room

unfoldable pub joined_links : Place → List ℕ → List ℕ → List ℕ → List ℕ
joined_links p payer links room = cond (holds p payer room) (links_with payer (held_in p) links) links

unfoldable pub sought_links : Place → List ℕ → List ℕ → List ℕ → List ℕ
sought_links p payer links room = cond (goes_on (moved_on p payer room)) (no_links (joined_links p payer links room)) (joined_links p payer links room)

pub record SeekAsks (p : Place) (links room : List ℕ) : Type 0 where
  pub begun : p.from ≤ p.at
  pub below : p.at < p.end
  pub links-room : slots + held ≤ length links
  pub held-room : 20 * held ≤ length room
  pub chained : Chained (held_key room) (held_in p) links

-- Mark and Settle: the n requests are chained by their payers, and the list holds what was taken of each
pub record DuesAsks (n : ℕ) (request taken links : List ℕ) : Type 0 where
  pub few : n ≤ 65535
  pub inside : Inside [] payer_spacing request n
  pub chained : Chained (dues_key request) n links
  pub list : n ≤ length taken
  pub small : (i : ℕ) → i < n → listed taken i ≤ 10 ^ 13

-- the mark of each request that names the payer is the number
unfoldable pub mark_with : (ℕ → List ℕ) → ℕ → List ℕ → ℕ → List ℕ → ℕ → ℕ
mark_with key n payer number marks i = cond (ltb i n && has_key_in key payer i) number (get_or marks i 0)

unfoldable pub marks_with : (ℕ → List ℕ) → ℕ → List ℕ → ℕ → List ℕ → List ℕ
marks_with key n payer number marks = tabulate (mark_with key n payer number marks) (length marks)

unfoldable pub marked : ℕ → Member → List ℕ → List ℕ → List ℕ → List ℕ
marked n m request taken marks =
    marks_with (dues_key request) n m.payer (over_number (taken_from (dues_key request) (listed taken) n m.payer) m.owed) marks

unfoldable pub settled_by : ℕ → Member → List ℕ → List ℕ → Member
settled_by n m request taken = member_after (dues_key request) (listed taken) n m
