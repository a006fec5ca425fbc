-- Both lists are filled from the front.
use Rattle.std.proofs.Common.{refl, ◌∙◌}
use lib.ListN.{length-set}
use native.Mathlib.Nat.{le_antisymm}
use native.Mathlib.Omega.{arith}
use Rattle.laws.proofs.Tabs.{fill_start, fill_more}
use Rattle.matching.proofs.Found.{left-of}
use Rattle.matching.specs.Amounts.{taken_at}
use Rattle.pair.proofs.lists.fill.Goals as goal

pub loop-i-init : goal.loop-i-init
loop-i-init c = (fill_start _ _, fill_start _ _, refl, refl)

pub loop-i-preserved : goal.loop-i-preserved
unfolding taken_at
loop-i-preserved c =
    let l = c.loop-i in
    let a = c.args in
    let less = rw (c.data_count-n.ensures, c.request_kind.ensures) at c.loop-i-test.true in
    let left = (rw c.results_for-results.ensures at c.not_taken_by-left.ensures.value) ∙ left-of a.pair a.request.now a.res.now (omega (arith, c.requires.request_bound)) l.i less in (
      rw l.invariant.0 (fill_more _ a.taken.now l.i _ (omega (arith, less, c.requires.request_in_bounds)) (rw (← c.asked_at.ensures.value, ← left) c.rest.ensures)),
      rw l.invariant.1 (fill_more _ a.not_taken.now l.i _ (omega (arith, less, c.requires.request_in_bounds_2)) left),
      simp length-set l.invariant.2,
      simp length-set l.invariant.3,
    )

pub returns : goal.returns
returns c =
    let l = c.loop-i in
    let e = le_antisymm c.loop-i-test.false l.auto.i-end in
    rw (← c.request_kind.ensures, ← c.data_count-n.ensures, e) (record { taken_after = l.invariant.0; not_taken_after = l.invariant.1 })
