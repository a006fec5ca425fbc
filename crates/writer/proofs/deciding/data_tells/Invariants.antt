-- The loop looks for the first record that breaks a row, and sums up those before it.
use Rattle.answers.proofs.Refusals.{So-far}
use Rattle.tables.specs.Totals.{most_totals}
use Rattle.laws.specs.Tabulate.{tabulate}
use Rattle.records.specs.Records.{record_of}
use Rattle.writer.specs.Writing.{data_told, sum_to}
use lib.ListN.{length}
use mathlib.Core.Path.{◌≡◌}
use Rattle.writer.proofs.deciding.data_tells.Given as goal

abbrev pub invariant-loop-i : goal.invariant-loop-i
invariant-loop-i l =
    record {
      long : length l.frame ≡ 450;
      still : record_of l.kind l.frame 0 ≡ record_of l.kind l.initial.frame 0;
      so_far : So-far (data_told l.kind (record_of l.kind l.initial.frame 0) l.bodies) l.i;
      summed : l.sums ≡ tabulate (sum_to l.kind (record_of l.kind l.initial.frame 0) l.bodies l.i) most_totals;
    }
