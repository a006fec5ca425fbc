-- The table holds the rows of `trailer_rows`.
use Rattle.std.proofs.Common.{refl}
use Rattle.evidence_rows.specs.Tables.{trailer_rows, front}
use Rattle.evidence_rows.proofs.by_role.trailer_rows.Goals as goal

pub returns : goal.returns
unfolding trailer_rows front
returns c = refl
