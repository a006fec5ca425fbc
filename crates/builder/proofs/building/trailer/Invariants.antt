-- Row by row, from the last one on.
use Rattle.kinds.specs.declared.of_files.Role.TheVariants.{Trailer}
use Rattle.kinds.specs.Kinds.{fixed_of}
use Rattle.builder.specs.Records.{trailer_by}
use Rattle.builder.proofs.Laying.{Laid}
use lib.ListN.{length}
use mathlib.Core.Path.{◌≡◌}
use Rattle.builder.proofs.building.trailer.Given as goal

abbrev pub invariant-loop-row : goal.invariant-loop-row
invariant-loop-row g l = (length l.rec ≡ (fixed_of l.kind).size) × Laid l.kind Trailer (trailer_by l.kind l.header l.sums) (length l.yielded) l.rec
