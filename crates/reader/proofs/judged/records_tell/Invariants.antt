-- The loop looks for the first record that breaks a row.
use Rattle.answers.proofs.Refusals.{So-far}
use Rattle.reader.specs.Judged.{judged_at}
use Rattle.reader.proofs.judged.records_tell.Given as goal

abbrev pub invariant-loop-i : goal.invariant-loop-i
invariant-loop-i l = So-far (judged_at l.kind l.file) l.i
