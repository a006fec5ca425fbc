-- One body behind the other.
use mathlib.Core.Path.{refl, ◌∙◌}
use native.Mathlib.Nat.{le_antisymm}
use native.Mathlib.Omega.{arith}
use Rattle.writer.specs.Apart.{bodies_in}
use Rattle.apart.proofs.Bodies.{store-start, store-more, body-within}
use Rattle.apart.proofs.storing.store.Goals as goal

pub loop-i-init : goal.loop-i-init
loop-i-init c =
    let a = c.args in
    (refl, store-start a.kind a.file.now a.room.now)

pub put-requires : goal.put-requires
put-requires c =
    let a = c.args in
    let l = c.loop-i in
    let less = rw c.data_count-i-end.ensures at c.loop-i-test.true in
    rw (c.of-size.ensures, c.body.ensures) (omega (arith, body-within a.kind a.file.now l.i less, c.requires, l.invariant.0))

pub loop-i-preserved : goal.loop-i-preserved
loop-i-preserved c =
    let a = c.args in
    let l = c.loop-i in
    let p = c.put in
    let less = rw c.data_count-i-end.ensures at c.loop-i-test.true in
    (p.auto.room ∙ l.invariant.0, p.ensures ∙ rw (c.of-size.ensures, c.body.ensures, l.invariant.1) (store-more a.kind a.file.now a.room.now l.i less))

pub returns : goal.returns
unfolding bodies_in
returns c =
    let l = c.loop-i in
    let e = le_antisymm c.loop-i-test.false l.auto.i-end in
    l.invariant.1 ∙ rw (← e, c.data_count-i-end.ensures)
