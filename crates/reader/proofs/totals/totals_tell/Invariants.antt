-- The loop looks for the first total that is not what the records give.
use Rattle.answers.proofs.Refusals.{So-far}
use Rattle.reader.specs.Totals.{total_tells}
use Rattle.reader.proofs.totals.totals_tell.Given as goal

abbrev pub invariant-loop-total : goal.invariant-loop-total
invariant-loop-total l = So-far (total_tells l.kind l.file) l.total-index
