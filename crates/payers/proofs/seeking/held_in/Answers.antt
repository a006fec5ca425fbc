-- By whether there is room for more.
use Rattle.std.proofs.Common.{rules, tests}
use Rattle.payers.specs.Turns.{held, held_in}
use Rattle.payers.proofs.seeking.held_in.Goals as goal

pub returns : goal.returns
unfolding held held_in
returns c = search (rules, tests)
