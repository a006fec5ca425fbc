-- A walker stepped from its opening: it has taken so many steps.
use Rattle.std.proofs.Common.{◌≡◌}
use Rattle.walker.specs.Walkers.{stepped}
use Rattle.walker.proofs.walker.after_steps.Given as goal

abbrev pub invariant-loop : goal.invariant-loop
invariant-loop l = l.walker ≡ stepped l.initial.walker l.counter
