-- One byte after the other.
use Rattle.builder.specs.Bytes.{written}
use Rattle.builder.specs.Records.{given, header_fill}
use lib.ListN.{length}
use lib.Seq.{paste}
use mathlib.Core.Path.{◌≡◌}
use Rattle.builder.proofs.building.put_header_row.Given as goal

abbrev pub invariant-loop-d : goal.invariant-loop-d
invariant-loop-d l = (l.rec ≡ paste l.initial.rec l.fn.row.1 (written (header_fill l.fn.kind (given l.fn.head)) l.fn.row) l.d) × (length l.rec ≡ length l.initial.rec)
