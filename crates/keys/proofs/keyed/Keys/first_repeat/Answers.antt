-- The keys are chained, then searched.
use Prim.Native.Nat.{◌+◌}
use Rattle.keys.proofs.Chained.{none-zeros}
use Rattle.keys.specs.Chains.{slots}
use Rattle.kinds.specs.Kinds.{limit}
use native.Mathlib.Omega.{arith}
use Rattle.keys.proofs.keyed.Keys.first_repeat.Goals as goal

pub chain-requires-clause-n_in_bounds : goal.chain-requires-clause-n_in_bounds
unfolding slots
chain-requires-clause-n_in_bounds c = omega (arith, c.requires)

pub chain-requires-clause-links_value : goal.chain-requires-clause-links_value
unfolding slots
chain-requires-clause-links_value c = none-zeros (slots + limit)
