-- The loop looks for the first record that breaks a row.
use Rattle.std.specs.Prelude.{Err}
use mathlib.Core.Path.{◌≡◌}
use borrow.Author.Rules.{rules}
use Rattle.answers.proofs.Tellings.{loop-start, loop-stop, loop-more, loop-end}
use Rattle.reader.specs.Judged.{records_tell}
use Rattle.reader.proofs.judged.records_tell.Goals as goal

pub loop-i-init : goal.loop-i-init
loop-i-init c = loop-start _

pub returns-in_err-judged_at : goal.returns-in_err-judged_at
unfolding records_tell
returns-in_err-judged_at c =
    let l = c.loop-i in
    let e : c.from_residual.result ≡ Err c.in_err-judged_at.field-0.0 = search rules in
    rw (e, ← c.count-i-end.ensures) (loop-stop _ _ l.i _ c.loop-i-test.true l.invariant c.in_err-judged_at.ensures)

pub loop-i-preserved : goal.loop-i-preserved
loop-i-preserved c = loop-more _ c.loop-i.i c.loop-i.invariant c.in_ok-judged_at.ensures

pub returns : goal.returns
unfolding records_tell
returns c =
    let l = c.loop-i in
    rw (← c.count-i-end.ensures) (loop-end _ l.i _ c.loop-i-test.false l.auto.i-end l.invariant)
