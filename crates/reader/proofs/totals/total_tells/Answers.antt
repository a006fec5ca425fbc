-- By whether the total holds.
use Rattle.reader.proofs.totals.total_tells.Goals as goal

pub returns-then-total_holds : goal.returns-then-total_holds
returns-then-total_holds c = rw (← c.total_holds.ensures, c.if-total_holds.true)

pub returns : goal.returns
returns c = rw (← c.total_holds.ensures, c.if-total_holds.false, ← c.count-trailer.ensures)
