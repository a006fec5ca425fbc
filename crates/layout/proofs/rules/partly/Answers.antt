-- By its definition.
use Rattle.std.proofs.Common.{rules}
use Rattle.layout.specs.Rules.{partly}
use Rattle.layout.proofs.rules.partly.Goals as goal

pub returns-then-table_code : goal.returns-then-table_code
unfolding partly
returns-then-table_code c = search rules

pub returns-else-table_code : goal.returns-else-table_code
unfolding partly
returns-else-table_code c = search rules

pub returns-else-byte-eq80 : goal.returns-else-byte-eq80
unfolding partly
returns-else-byte-eq80 c = search rules
