-- The sum so far.
use mathlib.Core.Path.{sym}
use native.Mathlib.Nat.{le_antisymm}
use native.Mathlib.Omega.{arith}
use borrow.Author.Rules.{rules}
use Rattle.laws.proofs.Sums.{sum-start, sum_more}
use Rattle.changes_writer.specs.Building.{refused_of}
use Rattle.changes_writer.proofs.counting.Reply.refused_of.Goals as goal

pub loop-i-init : goal.loop-i-init
loop-i-init c = (sym (sum-start _), search rules)

pub loop-i-preserved : goal.loop-i-preserved
loop-i-preserved c =
    let l = c.loop-i in
    let w = c.worth_if-sum.ensures in
    (rw (l.invariant.0, w.value) (sym (sum_more _ l.i)), omega (arith, l.invariant.1, w.upper_bound))

pub returns : goal.returns
unfolding refused_of
returns c =
    let l = c.loop-i in
    rw (← c.args.self.answered.many, le_antisymm c.loop-i-test.false l.auto.i-end) l.invariant.0
