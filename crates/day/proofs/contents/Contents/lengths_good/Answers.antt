-- The digits of one length after the other.
use mathlib.Core.Path.{◌≡◌, sym}
use native.Mathlib.Omega.{arith}
use Rattle.laws.proofs.Leasts.{least_start, least_more, none_true, none-false}
use Rattle.text.specs.Characters.{digits}
use Rattle.day.specs.Contents.{bad_length}
use Rattle.day.proofs.contents.Contents.lengths_good.Goals as goal

pub loop-i-init : goal.loop-i-init
loop-i-init c = least_start _

pub returns-then-not-each : goal.returns-then-not-each
unfolding bad_length digits
returns-then-not-each c =
    let l = c.loop-i in
    sym (none-false _ l.i c.args.self.n c.loop-i-test.true l.invariant (rw (← c.digits.ensures.value, ← c.each.ensures, c.if-not-each.true)))

pub loop-i-preserved : goal.loop-i-preserved
unfolding bad_length digits
loop-i-preserved c =
    let l = c.loop-i in
    least_more _ l.i l.invariant (rw (← c.digits.ensures.value, ← c.each.ensures, c.if-not-each.false))

pub returns : goal.returns
returns c =
    let l = c.loop-i in
    let e : c.args.self.n ≡ l.i = omega (arith, l.auto.i-end, c.loop-i-test.false) in
    rw e (sym (none_true _ l.i l.invariant))
