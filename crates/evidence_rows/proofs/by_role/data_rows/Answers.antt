-- By the profile, the table unfolded.
use Rattle.evidence_rows.specs.Tables.{record_rows, front}
use Rattle.evidence_rows.proofs.by_role.data_rows.Goals as goal

pub returns-then-partly_exempt : goal.returns-then-partly_exempt
unfolding record_rows front
returns-then-partly_exempt c = rw c.if-partly_exempt.true

pub returns : goal.returns
unfolding record_rows front
returns c = rw c.if-partly_exempt.false
