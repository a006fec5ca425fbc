-- The loop looks for the first result that cannot stand.
use Rattle.answers.proofs.Refusals.{So-far}
use Rattle.pair.specs.Results.{result_tells}
use Rattle.pair.proofs.results.results_tell.Given as goal

abbrev pub invariant-loop-j : goal.invariant-loop-j
invariant-loop-j l = So-far (result_tells l.pair l.request l.res) l.j
