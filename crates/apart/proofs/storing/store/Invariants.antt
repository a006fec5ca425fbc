-- One body behind the other.
use mathlib.Core.Path.{◌≡◌}
use lib.ListN.{length}
use Rattle.apart.proofs.Bodies.{Stored}
use Rattle.apart.proofs.storing.store.Given as goal

abbrev pub invariant-loop-i : goal.invariant-loop-i
invariant-loop-i l = (length l.room ≡ length l.initial.room) × (l.room ≡ Stored l.kind l.file l.initial.room l.i)
