-- By whether the trailer has such a total.
use Rattle.tables.specs.Totals.{no_total}
use Rattle.builder.specs.Records.{file_total}
use Rattle.builder.proofs.files.sum_at.Goals as goal

pub returns-in-Some : goal.returns-in-Some
unfolding file_total
returns-in-Some c =
    let found = c.in-Some.ensures.lookup in
    rw (← c.totals_of.ensures, ← found.0, ← found.3.1 no_total) c.quantity_of.ensures

pub returns-in-None : goal.returns-in-None
unfolding file_total
returns-in-None c = rw (← c.totals_of.ensures, ← c.in-None.ensures.lookup.0)
