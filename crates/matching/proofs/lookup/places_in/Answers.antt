-- The keys are chained, then every key is looked up along its chain.
use Prim.Native.Nat.{ℕ, ◌+◌}
use Rattle.keys.proofs.Chained.{none-zeros}
use Rattle.keys.specs.Chains.{slots}
use Rattle.kinds.specs.Kinds.{limit}
use native.Mathlib.Omega.{arith}
use mathlib.Core.Path.{◌≡◌, ap, ◌∙◌}
use lib.ListN.{length, length-replicate}
use Rattle.matching.proofs.lookup.places_in.Goals as goal

pub chain-requires-clause-n_in_bounds : goal.chain-requires-clause-n_in_bounds
unfolding slots
chain-requires-clause-n_in_bounds c = omega (arith, c.requires.file_bound, c.keys_of-keys.ensures.n_value)

pub chain-requires-clause-links_value : goal.chain-requires-clause-links_value
unfolding slots
chain-requires-clause-links_value c = none-zeros (slots + limit)

pub places-requires-clause-list_value : goal.places-requires-clause-list_value
places-requires-clause-list_value c =
    let long : length c.args.list.now ≡ limit = ap length c.requires.list_value ∙ length-replicate {A = ℕ} limit 0 in
    rw long c.requires.list_value
