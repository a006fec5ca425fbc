-- The loop looks for the first of a split change.
use Rattle.answers.proofs.Refusals.{So-far}
use Rattle.changes.specs.Deciding.{split_told}
use Rattle.changes.proofs.others.Enrolled.splits_tell.Given as goal

abbrev pub invariant-loop-i : goal.invariant-loop-i
invariant-loop-i l = So-far (split_told l.self.file.now l.answers) l.i
