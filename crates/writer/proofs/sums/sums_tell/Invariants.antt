-- The loop looks for the first total that the trailer does not say.
use Rattle.answers.proofs.Refusals.{So-far}
use Rattle.writer.specs.Writing.{sum_told}
use lib.ListN.{length}
use Rattle.writer.proofs.sums.sums_tell.Given as goal

abbrev pub invariant-loop-total : goal.invariant-loop-total
invariant-loop-total l = So-far (sum_told l.fn.kind l.trailer l.fn.sums l.number) (length l.yielded)
