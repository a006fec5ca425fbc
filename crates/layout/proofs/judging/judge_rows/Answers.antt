-- The loop looks for the first row that does not hold.
use Rattle.laws.proofs.Leasts.{least_start}
use Rattle.layout.proofs.Judged.{row-good, judge-stop}
use Rattle.answers.proofs.Refusals.{told_more, told-end}
use native.Mathlib.Nat.{le_antisymm}
use Rattle.layout.specs.Judging.{judge_by}
use mathlib.Core.Path.{sym, ◌∙◌}
use Rattle.layout.proofs.judging.judge_rows.Goals as goal

pub loop-row-init : goal.loop-row-init
loop-row-init c = least_start _

pub loop-row-preserved : goal.loop-row-preserved
loop-row-preserved c =
    let l = c.loop-row in
    told_more _ l.row-index l.invariant (row-good _ _ _ _ _ l.row-index (rw (← c.holds.ensures) c.if-not-holds.false))

pub returns-then-not-holds : goal.returns-then-not-holds
returns-then-not-holds c =
    let l = c.loop-row in
    c.broken_at.ensures ∙ sym (judge-stop _ _ _ _ _ l.row-index c.loop-row-test.true l.invariant (rw (← c.holds.ensures) c.if-not-holds.true))

pub returns : goal.returns
unfolding judge_by
returns c =
    let l = c.loop-row in
    sym (told-end _ _ (rw (le_antisymm c.loop-row-test.false c.loop-row.auto.row-index-end) l.invariant))
