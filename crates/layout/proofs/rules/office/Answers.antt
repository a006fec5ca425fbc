-- By its definition.
use Rattle.std.proofs.Common.{rules}
use Rattle.text.specs.Characters.{digits, spaces}
use Rattle.layout.specs.Rules.{office}
use Rattle.layout.proofs.rules.office.Goals as goal

pub returns-then-each-2 : goal.returns-then-each-2
unfolding office digits spaces
returns-then-each-2 c = search rules

pub returns-else-each-2 : goal.returns-else-each-2
unfolding office digits spaces
returns-else-each-2 c = search rules
