-- The number so far is what the bytes so far say.
use mathlib.Core.Path.{◌≡◌}
use Rattle.numbers.specs.Numbers.{value_to}
use Rattle.numbers.proofs.base_ten.number.Given as goal

abbrev pub invariant-loop-b : goal.invariant-loop-b
invariant-loop-b l = l.n ≡ value_to l.s l.b-index
