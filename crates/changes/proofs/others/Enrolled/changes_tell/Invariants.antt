-- The loop looks for the first that is alone.
use Rattle.answers.proofs.Refusals.{So-far}
use Rattle.changes.specs.Deciding.{lonely_told}
use Rattle.changes.proofs.others.Enrolled.changes_tell.Given as goal

abbrev pub invariant-loop-i : goal.invariant-loop-i
invariant-loop-i l = So-far (lonely_told l.self.file.now) l.i
