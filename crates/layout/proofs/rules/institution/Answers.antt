-- By its definition.
use Rattle.std.proofs.Common.{rules}
use Rattle.text.specs.Characters.{digits}
use Rattle.layout.specs.Rules.{institution}
use Rattle.layout.proofs.rules.institution.Goals as goal

pub returns-then-byte-eq57 : goal.returns-then-byte-eq57
unfolding institution digits
returns-then-byte-eq57 c = search rules

pub returns-else-byte-eq57 : goal.returns-else-byte-eq57
unfolding institution digits
returns-else-byte-eq57 c = search rules
