-- The last digit is dropped until the one that is asked stands last.
use Prim.Native.Nat.{◌+◌, ◌-◌, ◌<◌}
use lib.ListN.{get_or}
use mathlib.Core.Path.{◌≡◌}
use Rattle.numbers.specs.Numbers.{digits_of}
use Rattle.numbers.proofs.base_ten.digit_at.Given as goal

abbrev pub invariant-loop : goal.invariant-loop
invariant-loop l = (l.d < l.w) × (get_or (digits_of l.w l.n) l.d 0 ≡ get_or (digits_of (l.w + l.d + 1 - l.counter) l.rest) l.d 0)
