-- By whether anything is owed.
use Rattle.std.proofs.Common.{rules, tests}
use Rattle.payers.specs.Payers.{state_of}
use Rattle.payers.proofs.paying.state_of.Goals as goal

pub returns : goal.returns
unfolding state_of
returns c = search (rules, tests)
