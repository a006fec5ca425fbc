-- By the name of the request's kind.
use Rattle.dues.specs.Posting.{same_day, date_start}
use borrow.Author.Tests.{eq-eqb, ne_eqb}
use Rattle.dues.proofs.ready.date_start.Goals as goal

pub returns-then-pair-clause-value : goal.returns-then-pair-clause-value
unfolding date_start same_day
returns-then-pair-clause-value c = rw (eq-eqb _ _ c.if-pair.true)

pub returns-else-pair-clause-value : goal.returns-else-pair-clause-value
unfolding date_start same_day
returns-else-pair-clause-value c = rw (ne_eqb _ _ c.if-pair.false)
