-- The table holds the rows of `header_rows`.
use Rattle.std.proofs.Common.{refl}
use Rattle.evidence_rows.specs.Tables.{header_rows, front}
use Rattle.evidence_rows.proofs.by_role.header_rows.Goals as goal

pub returns : goal.returns
unfolding header_rows front
returns c = refl
