-- The list is filled from the front.
use Rattle.std.specs.Prelude.{◌≡◌, ◌++◌, length, drop}
use Rattle.laws.specs.Tabulate.{tabulate}
use Rattle.matching.specs.Amounts.{taken_at}
use Rattle.dues.proofs.taking.fill.Given as goal

abbrev pub invariant-loop-i : goal.invariant-loop-i
invariant-loop-i l = (l.taken ≡ tabulate (taken_at l.pair l.request l.res) l.i ++ drop l.i l.initial.taken) × (length l.taken ≡ length l.initial.taken)
