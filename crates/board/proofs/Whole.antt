-- The memory that is lent for the passes is long enough, and after the second each mark is what is told of its request.
-- Assumes nothing.
use Prim.Native.Nat.{ℕ, ◌+◌, ◌*◌, ◌≤◌, ◌<◌}
use native.Mathlib.Nat.{le_refl}
use mathlib.Core.List.{List, ◌++◌}
use mathlib.Core.Path.{◌≡◌, sym, ap, subst}
use lib.Dec.{leb→le}
use lib.ListN.{length, get_or, drop, replicate, length-replicate}
use Rattle.laws.specs.Tabulate.{tabulate}
use Rattle.laws.proofs.Tabs.{fill-at}
use Rattle.kinds.specs.Kinds.{limit}
use Rattle.answers.specs.Answers.{accepted}
use Rattle.answers.proofs.Tellings.{good}
use Rattle.keys.specs.Chains.{slots, no_links}
use Rattle.payers.specs.declared.members.Member.{Member}
use Rattle.payers.specs.Members.{repeat_number, repeat_tells}
use Rattle.payers.specs.Payers.{due_number}
use Rattle.payers.specs.Turns.{held, dues_key, listed}
use Rattle.dues.specs.Steps.{unmet}
use Rattle.board.specs.Passing.{links_lent, room_lent, SeekBegins, Marks}
use Rattle.board.proofs.Stages.{repeat-good}

-- an array of n places has room for so many
long : (m n : ℕ) → m ≤ n → m ≤ length (replicate {A = ℕ} n 0)
long m n h = subst (λ (k : ℕ). m ≤ k) (sym (length-replicate {A = ℕ} n 0)) h

pub list-long : limit ≤ length (replicate {A = ℕ} limit 0)
list-long = long limit limit (le_refl limit)

pub links-long : slots + limit ≤ length (replicate {A = ℕ} links_lent 0)
unfolding slots
links-long = long (slots + limit) links_lent (leb→le (slots + limit) links_lent tt)

pub marks-long : limit ≤ length (replicate {A = ℕ} room_lent 0)
marks-long = long limit room_lent (leb→le limit room_lent tt)

-- and no payer is held in them yet
pub seek-at-first : SeekBegins (replicate links_lent 0) (replicate room_lent 0)
unfolding slots held no_links
seek-at-first = record {
  links-room = long (slots + held) links_lent (leb→le (slots + held) links_lent tt);
  held-room = long (20 * held) room_lent (leb→le (20 * held) room_lent tt);
  none = ap (λ (k : ℕ). replicate k 0) (sym (length-replicate {A = ℕ} links_lent 0));
}

-- each mark was 41, until a member was met
pub met :
    (board : List Member) (n : ℕ) (request taken room room' room'' : List ℕ) →
    accepted ≡ repeat_tells (repeat_number board) → room' ≡ tabulate unmet n ++ drop n room → Marks n board request taken room' room'' →
    (i : ℕ) → i < n → get_or room'' i 0 ≡ due_number (dues_key request) (listed taken) n board i
unfolding unmet
met board n request taken room room' room'' differ e marks i h = marks (repeat-good (repeat_number board) (good _ differ)) i h (rw e (fill-at unmet room n i h))
