-- At the end, and by how many are left.
use Rattle.std.proofs.Common.{rules, tests}
use Rattle.payers.specs.Turns.{held, goes_on}
use Rattle.payers.proofs.seeking.goes_on.Goals as goal

pub returns-then-place : goal.returns-then-place
unfolding goes_on held
returns-then-place c = search (rules, tests)

pub returns-else-place : goal.returns-else-place
unfolding goes_on
returns-else-place c = search (rules, tests)
