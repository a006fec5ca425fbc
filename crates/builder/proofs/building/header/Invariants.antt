-- Row by row, from the last one on.
use Rattle.kinds.specs.declared.of_files.Role.TheVariants.{Header}
use Rattle.kinds.specs.Kinds.{fixed_of}
use Rattle.builder.specs.Records.{given, header_fill}
use Rattle.builder.proofs.Laying.{Laid}
use lib.ListN.{length}
use mathlib.Core.Path.{◌≡◌}
use Rattle.builder.proofs.building.header.Given as goal

abbrev pub invariant-loop-row : goal.invariant-loop-row
invariant-loop-row g l = (length l.rec ≡ (fixed_of l.kind).size) × Laid l.kind Header (header_fill l.kind (given l.head)) (length l.yielded) l.rec
