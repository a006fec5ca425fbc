-- By its definition.
use Rattle.std.proofs.Common.{rules}
use Rattle.layout.specs.Rules.{failed}
use Rattle.layout.proofs.rules.failed.Goals as goal

pub returns-then-byte-eq78 : goal.returns-then-byte-eq78
unfolding failed
returns-then-byte-eq78 c = search rules

pub returns-else-byte-eq78 : goal.returns-else-byte-eq78
unfolding failed
returns-else-byte-eq78 c = search rules
