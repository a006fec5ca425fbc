-- The two tests, in their order.
use Rattle.answers.specs.Lying.{is_one}
use borrow.Author.Tests.{le-leb, lt-leb}
use Rattle.answers.proofs.lying.is_one.Goals as goal

pub returns-then-number-ge1 : goal.returns-then-number-ge1
unfolding is_one
returns-then-number-ge1 c = rw (le-leb 1 _ c.if-number-ge1.true)

pub returns-else-number-ge1 : goal.returns-else-number-ge1
unfolding is_one
returns-else-number-ge1 c = rw (lt-leb 1 _ c.if-number-ge1.false)
