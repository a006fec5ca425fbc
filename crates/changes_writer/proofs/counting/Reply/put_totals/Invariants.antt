-- One total after the other.
use mathlib.Core.Path.{◌≡◌}
use Rattle.changes_writer.specs.Building.{totals_to}
use Rattle.changes_writer.proofs.counting.Reply.put_totals.Given as goal

abbrev pub invariant-loop-total : goal.invariant-loop-total
invariant-loop-total l = l.rec ≡ totals_to l.self.file.now l.self.answers.now l.initial.rec l.total-index
