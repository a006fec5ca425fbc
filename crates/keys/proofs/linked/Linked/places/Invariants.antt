-- One key after the other.
use Rattle.laws.specs.Tabulate.{tabulate}
use Rattle.keys.specs.Keyed.{key_of}
use Rattle.keys.specs.Keys.{place_for}
use lib.ListN.{drop}
use mathlib.Core.List.{◌++◌}
use mathlib.Core.Path.{◌≡◌}
use Rattle.keys.proofs.linked.Linked.places.Given as goal

abbrev pub invariant-loop-j : goal.invariant-loop-j
invariant-loop-j l = l.list ≡ tabulate (place_for (key_of l.self.keys) l.self.keys.n (key_of l.others) l.others.n) l.j ++ drop l.j l.initial.list
