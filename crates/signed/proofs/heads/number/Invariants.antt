-- The number so far is what the bytes so far say, and has as many digits.
use Prim.Native.Nat.{◌^◌, ◌<◌}
use mathlib.Core.Path.{◌≡◌}
use Rattle.signed.specs.Shape.{number_to}
use Rattle.signed.proofs.heads.number.Given as goal

abbrev pub invariant-loop-b : goal.invariant-loop-b
invariant-loop-b l = (l.n ≡ number_to l.s l.b-index) × (l.n < 256 ^ l.b-index)
