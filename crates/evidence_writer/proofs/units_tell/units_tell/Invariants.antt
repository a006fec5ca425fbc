-- The loop goes from unit to unit until nothing is left, the limit or the first that is refused.
use lib.ListN.{length, drop}
use mathlib.Core.List.{◌++◌}
use mathlib.Core.Path.{◌≡◌}
use Rattle.laws.specs.Tabulate.{tabulate}
use Rattle.evidence_builder.specs.Units.{place_of}
use Rattle.evidence_writer.proofs.Told.{Walk}
use Rattle.evidence_writer.proofs.units_tell.units_tell.Given as goal

abbrev pub invariant-loop-i : goal.invariant-loop-i
invariant-loop-i l =
    Walk l.by.exempt l.by.header.now l.by.code.now l.x l.i l.p l.b × (length l.places ≡ length l.initial.places) ×
    (l.places ≡ tabulate (place_of l.x) l.i ++ drop l.i l.initial.places)
