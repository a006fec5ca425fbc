-- The loop looks for the first mark that tells something.
use Rattle.answers.proofs.Refusals.{So-far}
use Rattle.dues.specs.Steps.{marks_say}
use Rattle.dues.proofs.steps.marks_tell.Given as goal

abbrev pub invariant-loop-i : goal.invariant-loop-i
invariant-loop-i l = So-far (marks_say l.room) l.i
