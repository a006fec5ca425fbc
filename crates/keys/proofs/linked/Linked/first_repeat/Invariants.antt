-- The inner search looks for the key among the earlier ones, along its chain; the outer one for the first that is there.
use Prim.Native.Nat.{◌<◌}
use Rattle.laws.specs.Least.{least}
use Rattle.keys.specs.Chains.{last, slot_of, Link}
use Rattle.keys.specs.Keyed.{key_of}
use Rattle.keys.specs.Keys.{repeats_in, has_key_in, counted}
use mathlib.Core.Path.{◌≡◌}
use Rattle.keys.proofs.linked.Linked.first_repeat.Given as goal

abbrev pub invariant-loop-at : goal.invariant-loop-at
invariant-loop-at l =
    let key = key_of l.self.keys in
    (l.i < l.self.keys.n) × (key l.i ≡ l.key) × (least (repeats_in key) l.i ≡ l.i) ×
    (last (has_key_in key l.key) l.i ≡ last (has_key_in key l.key) (counted l.at)) × Link key l.self.keys.n (slot_of l.key) (counted l.at)

abbrev pub decreases-loop-at : goal.decreases-loop-at
decreases-loop-at l = counted l.at

abbrev pub invariant-loop-i : goal.invariant-loop-i
invariant-loop-i l = least (repeats_in (key_of l.self.keys)) l.i ≡ l.i
