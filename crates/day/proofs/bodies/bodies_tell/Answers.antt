-- Body after body, each where the lengths before it end.
use mathlib.Core.Path.{◌≡◌, sym}
use native.Mathlib.Omega.{arith}
use lib.ListN.{length}
use Rattle.laws.proofs.Sums.{sum-start, sum_more, sum-up}
use Rattle.answers.proofs.Tellings.{loop-start, loop-more, bad}
use Rattle.day.specs.Bodies.{size_at, body_in, body_told_at}
use Rattle.day.proofs.Listed.{bodies-stop, bodies-end}
use Rattle.day.proofs.bodies.bodies_tell.Goals as goal

pub loop-i-init : goal.loop-i-init
loop-i-init c = (sym (sum-start _), loop-start _)

pub part-requires : goal.part-requires
unfolding size_at
part-requires c = omega (arith, c.loop-i.invariant.0, sum-up (size_at c.args.lengths.now) _ c.loop-i.i c.loop-i-test.true, c.requires.n_in_bounds)

pub returns-in-Err : goal.returns-in-Err
unfolding body_told_at body_in size_at
returns-in-Err c =
    let l = c.loop-i in
    let told = rw (c.part.ensures.result_value, c.key.ensures, l.invariant.0) at c.in-Err.ensures in
    rw told (sym (bodies-stop _ _ _ _ l.i c.loop-i-test.true l.invariant.1 (bad _ _ told)))

pub overflow_add-at : goal.overflow_add-at
unfolding size_at
overflow_add-at c = omega (arith, c.loop-i.invariant.0, sum-up (size_at c.args.lengths.now) _ c.loop-i.i c.loop-i-test.true, c.requires.n_in_bounds)

pub loop-i-preserved : goal.loop-i-preserved
unfolding size_at body_told_at body_in
loop-i-preserved c =
    let l = c.loop-i in
    (rw l.invariant.0 (sym (sum_more _ l.i)), loop-more _ l.i l.invariant.1 (rw (c.part.ensures.result_value, c.key.ensures, l.invariant.0) at c.in_default.ensures))

pub returns : goal.returns
returns c =
    let l = c.loop-i in
    let e : l.i ≡ length c.args.lengths.now = omega (arith, l.auto.i-end, c.loop-i-test.false) in
    sym (bodies-end _ _ _ _ (rw e at l.invariant.1))
