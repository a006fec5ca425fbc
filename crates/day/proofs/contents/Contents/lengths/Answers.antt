-- One length after the other.
use mathlib.Core.Path.{◌∙◌}
use native.Mathlib.Omega.{arith}
use lib.ListN.{replicate}
use Rattle.laws.proofs.Tabs.{fill_start, fill_more}
use Rattle.day.specs.Contents.{most, length_in}
use Rattle.day.proofs.contents.Contents.lengths.Goals as goal

pub loop-i-init : goal.loop-i-init
loop-i-init c = fill_start (length_in _) _

pub loop-i-preserved : goal.loop-i-preserved
unfolding length_in
loop-i-preserved c =
    let l = c.loop-i in
    rw l.invariant (fill_more (length_in c.args.self.file.now) (replicate most 0) l.i _ (omega (arith, c.loop-i-test.true, c.args.self.few)) (c.number.ensures ∙ rw c.digits.ensures.value))
