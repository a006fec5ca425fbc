-- One sum after the other.
use Rattle.laws.specs.Tabulate.{tabulate}
use Rattle.records.specs.Records.{record_of}
use Rattle.writer.specs.Writing.{sum_with}
use lib.ListN.{drop}
use mathlib.Core.List.{◌++◌}
use mathlib.Core.Path.{◌≡◌}
use Rattle.writer.proofs.sums.add_record.Given as goal

abbrev pub invariant-loop-t : goal.invariant-loop-t
invariant-loop-t l = l.sums ≡ tabulate (sum_with l.kind (record_of l.kind l.frame 1) l.initial.sums) l.t ++ drop l.t l.initial.sums
