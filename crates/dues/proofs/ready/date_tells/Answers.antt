-- The date is held to the last of its sort.
use Rattle.dues.specs.Posting.{date_tells, last_posted}
use Rattle.dues.proofs.ready.date_tells.Goals as goal

pub returns-then-later : goal.returns-then-later
unfolding date_tells last_posted
returns-then-later c =
    rw (← c.day.ensures.result_value, ← c.date_start.ensures.value, ← c.part-last.ensures.result_value, ← c.later.ensures, c.if-later.true)

pub returns-else-later : goal.returns-else-later
unfolding date_tells last_posted
returns-else-later c =
    rw (← c.day.ensures.result_value, ← c.date_start.ensures.value, ← c.part-last.ensures.result_value, ← c.later.ensures, c.if-later.false)
