-- One length after the other.
use mathlib.Core.List.{◌++◌}
use mathlib.Core.Path.{◌≡◌}
use lib.ListN.{drop, replicate}
use Rattle.laws.specs.Tabulate.{tabulate}
use Rattle.day.specs.Contents.{most, length_in}
use Rattle.day.proofs.contents.Contents.lengths.Given as goal

abbrev pub invariant-loop-i : goal.invariant-loop-i
invariant-loop-i l = l.list ≡ tabulate (length_in l.self.file.now) l.i ++ drop l.i (replicate most 0)
