-- No unit so far is refused.
use Rattle.std.specs.Prelude.{Err}
use mathlib.Core.Path.{◌≡◌}
use borrow.Author.Rules.{rules}
use Rattle.answers.proofs.Tellings.{loop-start, loop-stop, loop-more, loop-end}
use Rattle.evidence_units.specs.Frames.{frames_told}
use Rattle.evidence_units.proofs.framing.frames_tell.Goals as goal

pub loop-i-init : goal.loop-i-init
loop-i-init c = loop-start _

pub returns-in_err-frame_tells : goal.returns-in_err-frame_tells
unfolding frames_told
returns-in_err-frame_tells c =
    let l = c.loop-i in
    let e : c.from_residual.result ≡ Err c.in_err-frame_tells.field-0.0 = search rules in
    rw e (loop-stop _ _ l.i _ c.loop-i-test.true l.invariant c.in_err-frame_tells.ensures)

pub loop-i-preserved : goal.loop-i-preserved
loop-i-preserved c = loop-more _ c.loop-i.i c.loop-i.invariant c.in_ok-frame_tells.ensures

pub returns : goal.returns
unfolding frames_told
returns c =
    let l = c.loop-i in
    loop-end _ l.i _ c.loop-i-test.false l.auto.i-end l.invariant
