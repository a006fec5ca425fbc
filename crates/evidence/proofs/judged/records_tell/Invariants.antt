-- The loop goes from record to record until the last block, the limit or the first that is refused.
use mathlib.Core.List.{◌++◌}
use mathlib.Core.Path.{◌≡◌}
use lib.ListN.{length, drop}
use Rattle.laws.specs.Tabulate.{tabulate}
use Rattle.evidence.specs.Blocks.{last_block}
use Rattle.evidence.specs.Judged.{byte_of}
use Rattle.evidence.proofs.Told.{Walk}
use Rattle.evidence.proofs.judged.records_tell.Given as goal

abbrev pub invariant-loop-i : goal.invariant-loop-i
invariant-loop-i l =
    Walk l.exempt l.file l.i l.b × (l.last ≡ last_block l.file) ×
    (length l.places ≡ length l.initial.places) × (l.places ≡ tabulate (byte_of l.file) l.i ++ drop l.i l.initial.places)
