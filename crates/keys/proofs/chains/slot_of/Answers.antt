-- The remainder of the key's number.
use Rattle.keys.proofs.Chained.{slot-within}
use Rattle.keys.specs.Chains.{slots, slot_of}
use mathlib.Core.Path.{refl}
use Rattle.keys.proofs.chains.slot_of.Goals as goal

pub returns : goal.returns
unfolding slots slot_of
returns c =
    rw c.hash.ensures (record {
      value = refl;
      upper_bound = slot-within c.args.key.now;
    })
