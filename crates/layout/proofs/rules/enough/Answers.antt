-- By its definition.
use Rattle.std.proofs.Common.{rules}
use Rattle.layout.specs.Rules.{enough}
use Rattle.layout.proofs.rules.enough.Goals as goal

pub returns-then-byte-eq49 : goal.returns-then-byte-eq49
unfolding enough
returns-then-byte-eq49 c = search rules

pub returns-else-byte-eq49 : goal.returns-else-byte-eq49
unfolding enough
returns-else-byte-eq49 c = search rules
