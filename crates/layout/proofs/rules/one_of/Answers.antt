-- By its definition.
use Rattle.std.proofs.Common.{rules}
use Rattle.layout.specs.Rules.{one_of}
use Rattle.layout.proofs.rules.one_of.Goals as goal

pub returns : goal.returns
unfolding one_of
returns c = search rules
