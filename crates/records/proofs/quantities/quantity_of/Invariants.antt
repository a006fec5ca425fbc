-- The sum so far.
use Prim.Native.Nat.{◌≤◌, ◌*◌, ◌^◌}
use Rattle.laws.specs.Sum
use Rattle.records.specs.Quantities.{worth_at}
use mathlib.Core.Path.{◌≡◌}
use Rattle.records.proofs.quantities.quantity_of.Given as goal

abbrev pub invariant-loop-i : goal.invariant-loop-i
invariant-loop-i l = (l.sum ≡ Sum.sum (worth_at l.kind l.file l.quantity) l.i) × (l.sum ≤ l.i * 10 ^ 13)
