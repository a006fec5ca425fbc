-- The list is filled from the front.
use Rattle.std.proofs.Common.{refl, ◌∙◌}
use lib.ListN.{length-set}
use native.Mathlib.Nat.{le_antisymm}
use native.Mathlib.Omega.{arith}
use Rattle.laws.proofs.Tabs.{fill_start, fill_more}
use Rattle.matching.proofs.Found.{left-of}
use Rattle.matching.specs.Amounts.{taken_at}
use Rattle.dues.proofs.taking.fill.Goals as goal

pub loop-i-init : goal.loop-i-init
loop-i-init c = (fill_start _ _, refl)

pub loop-i-preserved : goal.loop-i-preserved
unfolding taken_at
loop-i-preserved c =
    let l = c.loop-i in
    let a = c.args in
    let less = c.loop-i-test.true in
    let left = (rw c.results_for-results.ensures at c.not_taken_by-left.ensures.value) ∙ left-of a.pair a.request.now a.res.now (omega (arith, c.requires.request_bound)) l.i (omega (arith, c.requires.n_value, less)) in (
      rw l.invariant.0 (fill_more _ a.taken.now l.i _ (omega (arith, less, c.requires.n_in_bounds)) (rw (← c.asked_at.ensures.value, ← left) c.rest.ensures)),
      simp length-set l.invariant.1,
    )

pub returns : goal.returns
returns c =
    let l = c.loop-i in
    rw (le_antisymm c.loop-i-test.false l.auto.i-end) l.invariant.0
