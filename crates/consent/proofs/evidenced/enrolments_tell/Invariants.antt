-- The loop goes on until an enrolment lacks its evidence.
use mathlib.Core.Path.{◌≡◌}
use lib.ListN.{length}
use Rattle.answers.proofs.Refusals.{So-far}
use Rattle.consent.specs.Comparing.{lacks_told}
use Rattle.consent.specs.Marks.{marked_to}
use Rattle.consent.proofs.evidenced.enrolments_tell.Given as goal

abbrev pub invariant-loop-i : goal.invariant-loop-i
invariant-loop-i l = So-far (lacks_told l.enrolments l.evidence.file.now) l.i × (length l.marks ≡ length l.initial.marks) × (l.marks ≡ marked_to l.enrolments l.evidence.file.now l.i l.initial.marks)
