-- From the link of key i on.
use Rattle.keys.proofs.Chained.{counted-from, link-before, along-before, slot-here}
use Rattle.keys.specs.Chains.{slots}
use mathlib.Core.Path.{refl}
use native.Mathlib.Omega.{arith}
use Rattle.keys.proofs.linked.Linked.before.Goals as goal

pub link-requires : goal.link-requires
unfolding slots
link-requires c = omega (arith, c.args.self.now.chained.room, c.requires)

pub along-requires : goal.along-requires
unfolding slots
along-requires c =
    rw (c.link.ensures, counted-from _, c.key.ensures) (link-before _ _ _ c.args.self.now.chained _ _ c.requires (slot-here _ _ _ refl))

pub returns : goal.returns
unfolding slots
returns c =
    rw (along-before _ _ _ c.args.self.now.chained _ _ c.requires (slot-here _ _ _ refl)) (rw (c.key.ensures, c.link.ensures, counted-from _) at c.along.ensures)
