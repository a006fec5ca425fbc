-- One byte after the other.
use Rattle.builder.specs.Bytes.{written}
use Rattle.builder.specs.Records.{trailer_by}
use lib.ListN.{length}
use lib.Seq.{paste}
use mathlib.Core.Path.{◌≡◌}
use Rattle.builder.proofs.building.put_trailer_row.Given as goal

abbrev pub invariant-loop-d : goal.invariant-loop-d
invariant-loop-d l = (l.rec ≡ paste l.initial.rec l.fn.row.1 (written (trailer_by l.fn.kind l.fn.header l.fn.sums) l.fn.row) l.d) × (length l.rec ≡ length l.initial.rec)
