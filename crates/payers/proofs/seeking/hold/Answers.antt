-- Few are held.
use Rattle.payers.specs.Turns.{held}
use native.Mathlib.Omega.{arith}
use Rattle.payers.proofs.seeking.hold.Goals as goal

pub join-requires-clause-i_bound : goal.join-requires-clause-i_bound
unfolding held
join-requires-clause-i_bound c = omega (arith, c.requires.i_lt_held)
