-- Both tests, in their order.
use borrow.Author.Tests.{lt-leb, le-leb}
use Rattle.text.specs.Characters.{digits}
use Rattle.day.specs.Contents.{front_good}
use Rattle.day.proofs.contents.front_good.Goals as goal

pub returns-then-file-ge-FRONT : goal.returns-then-file-ge-FRONT
unfolding front_good digits
returns-then-file-ge-FRONT c = rw (le-leb 3 _ c.if-file-ge-FRONT.true, ← c.part.ensures.result_value) c.each.ensures

pub returns-else-file-ge-FRONT : goal.returns-else-file-ge-FRONT
unfolding front_good
returns-else-file-ge-FRONT c = rw (lt-leb 3 _ c.if-file-ge-FRONT.false)
