-- Down the chain: what is found among the first `from` keys is what is found among the first `at`.
use Rattle.keys.specs.Chains.{last, slot_of, Link}
use Rattle.keys.specs.Keyed.{key_of}
use Rattle.keys.specs.Keys.{has_key_in, counted}
use mathlib.Core.Path.{◌≡◌}
use Rattle.keys.proofs.linked.Linked.along.Given as goal

abbrev pub invariant-loop-at : goal.invariant-loop-at
invariant-loop-at l =
    let key = key_of l.self.keys in
    (last (has_key_in key l.key) (counted l.fn.from) ≡ last (has_key_in key l.key) (counted l.at)) × Link key l.self.keys.n (slot_of l.key) (counted l.at)

abbrev pub decreases-loop-at : goal.decreases-loop-at
decreases-loop-at l = counted l.at
