-- By the number.
use Rattle.std.proofs.Common.{rules}
use Rattle.laws.specs.Least.{number_in}
use Rattle.payers.specs.Members.{repeat_tells}
use Rattle.payers.specs.Turns.{member_in}
use Rattle.dues.proofs.steps.repeat_tells.Goals as goal

pub returns-in-Some : goal.returns-in-Some
unfolding repeat_tells number_in member_in
returns-in-Some c = search rules

pub returns : goal.returns
unfolding repeat_tells number_in member_in
returns c = search rules
