-- By whether the search goes on.
use Rattle.payers.specs.Turns.{held, next_in}
use Rattle.payers.proofs.Sought.{goes-within}
use mathlib.Core.Path.{sym, ◌∙◌}
use native.Mathlib.Omega.{arith}
use Rattle.payers.proofs.seeking.next_in.Goals as goal

pub overflow_add-from : goal.overflow_add-from
unfolding held
overflow_add-from c = record { fits = omega (arith, goes-within c.args.place (sym c.goes_on.ensures ∙ c.if-goes_on.true), c.well_formed) }

pub returns-then-goes_on-clause-value : goal.returns-then-goes_on-clause-value
unfolding next_in held
returns-then-goes_on-clause-value c = rw (sym c.goes_on.ensures ∙ c.if-goes_on.true)

pub returns-clause-value : goal.returns-clause-value
unfolding next_in
returns-clause-value c = rw (sym c.goes_on.ensures ∙ c.if-goes_on.false)
