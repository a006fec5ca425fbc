-- The number so far is what the bytes so far say, and has as many digits.
use mathlib.Core.Path.{sym}
use native.Mathlib.Nat.{le_antisymm}
use native.Mathlib.Omega.{arith}
use Rattle.signed.specs.Shape.{number_of}
use Rattle.signed.proofs.Numbers.{number-start, number_more, below_more, below-within}
use Rattle.signed.proofs.heads.number.Goals as goal

pub loop-b-init : goal.loop-b-init
loop-b-init c = (sym (number-start _), omega arith)

pub overflow_mul-n : goal.overflow_mul-n
overflow_mul-n c = omega (arith, below-within c.loop-b.n c.loop-b.b-index 7 c.loop-b.invariant.1 (omega arith))

pub overflow_add-n : goal.overflow_add-n
overflow_add-n c = omega (arith, below-within c.loop-b.n c.loop-b.b-index 7 c.loop-b.invariant.1 (omega arith), c.type_inv.s c.loop-b.b-index)

pub loop-b-preserved : goal.loop-b-preserved
loop-b-preserved c =
    let l = c.loop-b in (
      rw (l.invariant.0, c.from.ensures) (sym (number_more _ l.b-index)),
      below_more l.n l.b-index c.from.result l.invariant.1 (omega (arith, c.type_inv.s l.b-index)),
    )

pub returns : goal.returns
unfolding number_of
returns c = rw (le_antisymm c.loop-b-test.false c.loop-b.auto.b-index-end) c.loop-b.invariant.0
