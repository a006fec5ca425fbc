-- The number so far is what the bytes so far say.
use mathlib.Core.Path.{sym}
use native.Mathlib.Omega.{arith}
use Rattle.numbers.proofs.Values.{value-start, value-more, value-within}
use Rattle.numbers.proofs.base_ten.number.Goals as goal

pub loop-b-init : goal.loop-b-init
loop-b-init c = sym (value-start _)

pub overflow_mul-n : goal.overflow_mul-n
overflow_mul-n c = omega (arith, value-within c.args.s.now c.loop-b.b-index 18 (omega arith))

pub overflow_add-n : goal.overflow_add-n
overflow_add-n c = omega (arith, value-within c.args.s.now c.loop-b.b-index 18 (omega arith))

pub loop-b-preserved : goal.loop-b-preserved
loop-b-preserved c = rw (c.loop-b.invariant, c.digit.ensures.value) (sym (value-more _ c.loop-b.b-index))
