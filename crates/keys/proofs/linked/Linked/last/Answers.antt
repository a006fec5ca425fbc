-- From the slot of the key on.
use Rattle.keys.proofs.Chained.{counted-from, link-slot, along-slot, slot-within}
use Rattle.keys.specs.Chains.{slots}
use native.Mathlib.Omega.{arith}
use Rattle.keys.proofs.linked.Linked.last.Goals as goal

pub link-requires : goal.link-requires
unfolding slots
link-requires c = omega (arith, c.slot_of.ensures.upper_bound, c.args.self.now.chained.room)

pub along-requires : goal.along-requires
along-requires c =
    rw (c.link.ensures, counted-from _, c.slot_of.ensures.value) (link-slot _ _ _ c.args.self.now.chained _ (slot-within c.args.key.now))

pub returns : goal.returns
returns c =
    rw (along-slot _ _ _ c.args.self.now.chained c.args.key.now, ← c.slot_of.ensures.value) (rw (c.link.ensures, counted-from _) at c.along.ensures)
