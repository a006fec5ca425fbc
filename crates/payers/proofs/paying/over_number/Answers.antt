-- By which of the two is more.
use Rattle.std.proofs.Common.{rules, tests}
use Rattle.payers.specs.Payers.{over_number}
use Rattle.payers.proofs.paying.over_number.Goals as goal

pub returns-then-won-owed : goal.returns-then-won-owed
unfolding over_number
returns-then-won-owed c = search (rules, tests)

pub returns-else-won-owed : goal.returns-else-won-owed
unfolding over_number
returns-else-won-owed c = search (rules, tests)
