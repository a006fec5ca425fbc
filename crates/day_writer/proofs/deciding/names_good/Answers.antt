-- Both tests, in their order.
use borrow.Author.Tests.{le-leb, lt-leb}
use Rattle.day_writer.specs.Writing.{names_good}
use Rattle.day_writer.proofs.deciding.names_good.Goals as goal

pub returns-then-n-le-MOST : goal.returns-then-n-le-MOST
unfolding names_good
returns-then-n-le-MOST c = rw (le-leb _ 16 c.if-n-le-MOST.true)

pub returns-else-n-le-MOST : goal.returns-else-n-le-MOST
unfolding names_good
returns-else-n-le-MOST c = rw (lt-leb _ 16 c.if-n-le-MOST.false)
