-- By its definition.
use Rattle.std.proofs.Common.{rules}
use Rattle.layout.specs.Rules.{owner}
use Rattle.layout.proofs.rules.owner.Goals as goal

pub returns-then-byte-eq51 : goal.returns-then-byte-eq51
unfolding owner
returns-then-byte-eq51 c = search rules

pub returns : goal.returns
unfolding owner
returns c = search rules
