-- The loop looks for the first mark that tells something.
use Rattle.std.specs.Prelude.{Err}
use mathlib.Core.Path.{◌≡◌}
use borrow.Author.Rules.{rules}
use Rattle.answers.proofs.Tellings.{loop-start, loop-stop, loop-more, loop-end}
use Rattle.dues.specs.Steps.{marks_say}
use Rattle.dues.proofs.steps.marks_tell.Goals as goal

pub loop-i-init : goal.loop-i-init
loop-i-init c = loop-start _

pub returns-in_err-mark_says : goal.returns-in_err-mark_says
unfolding marks_say
returns-in_err-mark_says c =
    let l = c.loop-i in
    let e : c.from_residual.result ≡ Err c.in_err-mark_says.field-0.0 = search rules in
    rw e (loop-stop (marks_say c.args.room.now) _ l.i _ c.loop-i-test.true l.invariant c.in_err-mark_says.ensures)

pub loop-i-preserved : goal.loop-i-preserved
unfolding marks_say
loop-i-preserved c = loop-more (marks_say c.args.room.now) c.loop-i.i c.loop-i.invariant c.in_ok-mark_says.ensures

pub returns : goal.returns
returns c =
    let l = c.loop-i in
    loop-end _ l.i _ c.loop-i-test.false l.auto.i-end l.invariant
