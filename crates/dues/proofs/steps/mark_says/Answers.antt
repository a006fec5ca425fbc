-- By the mark.
use Rattle.std.proofs.Common.{rules}
use Rattle.dues.specs.Steps.{mark_says}
use Rattle.dues.proofs.steps.mark_says.Goals as goal

pub returns-in-0 : goal.returns-in-0
unfolding mark_says
returns-in-0 c = rw c.in-0.is

pub returns-in-42 : goal.returns-in-42
unfolding mark_says
returns-in-42 c = rw c.in-42.is

pub returns-in_default : goal.returns-in_default
unfolding mark_says
returns-in_default c = search rules
