-- The loop looks for the first of a split change.
use Rattle.std.specs.Prelude.{Err}
use mathlib.Core.Path.{◌≡◌}
use borrow.Author.Rules.{rules}
use Rattle.answers.proofs.Tellings.{loop-start, loop-stop, loop-more, loop-end}
use Rattle.changes.proofs.others.Enrolled.splits_tell.Goals as goal

pub loop-i-init : goal.loop-i-init
loop-i-init c = loop-start _

pub returns-in_err-split_tells : goal.returns-in_err-split_tells
returns-in_err-split_tells c =
    let l = c.loop-i in
    let e : c.from_residual.result ≡ Err c.in_err-split_tells.field-0.0 = search rules in
    rw e (loop-stop _ _ l.i _ c.loop-i-test.true l.invariant c.in_err-split_tells.ensures)

pub loop-i-preserved : goal.loop-i-preserved
loop-i-preserved c = loop-more _ c.loop-i.i c.loop-i.invariant c.in_ok-split_tells.ensures

pub returns : goal.returns
returns c = let l = c.loop-i in loop-end _ l.i _ c.loop-i-test.false l.auto.i-end l.invariant
