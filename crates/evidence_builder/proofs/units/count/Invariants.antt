-- From unit to unit, while bytes are left.
use Rattle.evidence_builder.proofs.Walked.{Left, UnderWay}
use Rattle.evidence_builder.proofs.units.count.Given as goal

abbrev pub invariant-loop-i : goal.invariant-loop-i
invariant-loop-i l = Left l.x l.i l.left × UnderWay l.x l.i
