-- Down the whole chain of the key's slot: the first key that is this one is met last.
use Rattle.std.specs.Option.{unwrap_or}
use Rattle.keys.proofs.Searched.{Seen}
use Rattle.keys.specs.Chains.{slot_of, Link}
use Rattle.keys.specs.Keyed.{key_of}
use Rattle.keys.specs.Keys.{has_key_in, below, counted}
use mathlib.Core.Path.{◌≡◌}
use Rattle.keys.proofs.linked.Linked.place.Given as goal

abbrev pub invariant-loop-at : goal.invariant-loop-at
invariant-loop-at l =
    let key = key_of l.self.keys in
    let n = l.self.keys.n in
    Seen (has_key_in key l.key) n (counted l.at) (unwrap_or l.found n) × (l.found ≡ below n (unwrap_or l.found n)) × Link key n (slot_of l.key) (counted l.at)

abbrev pub decreases-loop-at : goal.decreases-loop-at
decreases-loop-at l = counted l.at
