-- The loop looks for the first row that does not hold.
use Rattle.answers.proofs.Refusals.{So-far}
use Rattle.layout.specs.Judging.{row_tells}
use Rattle.layout.proofs.judging.judge_rows.Given as goal

abbrev pub invariant-loop-row : goal.invariant-loop-row
invariant-loop-row l = So-far (row_tells l.own l.rows l.rec l.header l.number) l.row-index
