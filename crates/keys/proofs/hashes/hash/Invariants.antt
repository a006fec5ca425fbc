-- The number so far is that of the bytes so far.
use Rattle.keys.specs.Hashes.{hash_to}
use mathlib.Core.Path.{◌≡◌}
use Rattle.keys.proofs.hashes.hash.Given as goal

abbrev pub invariant-loop-b : goal.invariant-loop-b
invariant-loop-b l = l.sum ≡ hash_to l.key l.b-index
