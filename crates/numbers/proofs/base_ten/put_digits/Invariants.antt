-- One digit after the other.
use lib.ListN.{length}
use lib.Seq.{paste}
use mathlib.Core.Path.{◌≡◌}
use Rattle.numbers.specs.Numbers.{digits_of}
use Rattle.numbers.proofs.base_ten.put_digits.Given as goal

abbrev pub invariant-loop-i : goal.invariant-loop-i
invariant-loop-i l = (l.room ≡ paste l.initial.room l.at (digits_of l.w l.n) l.i) × (length l.room ≡ length l.initial.room)
