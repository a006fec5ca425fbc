-- Both lists are filled from the front.
use Rattle.std.specs.Prelude.{◌≡◌, ◌++◌, length, drop}
use Rattle.laws.specs.Tabulate.{tabulate}
use Rattle.matching.specs.Amounts.{taken_at, not_taken_at}
use Rattle.pair.proofs.lists.fill.Given as goal

abbrev pub invariant-loop-i : goal.invariant-loop-i
invariant-loop-i l =
    (l.taken ≡ tabulate (taken_at l.pair l.request l.res) l.i ++ drop l.i l.initial.taken) ×
    (l.not_taken ≡ tabulate (not_taken_at l.pair l.request l.res) l.i ++ drop l.i l.initial.not_taken) ×
    (length l.taken ≡ length l.initial.taken) × (length l.not_taken ≡ length l.initial.not_taken)
