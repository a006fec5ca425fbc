-- Both sizes, then the pair.
use borrow.Author.Tests.{lt-ltb, le-ltb}
use Rattle.answers.specs.declared.of_two.OfTwo.TheVariants.{First, Second}
use Rattle.answers.specs.declared.refusing.Refusal.TheVariants.{TooMany}
use Rattle.answers.proofs.Tellings.{first-two, next}
use Rattle.posting.specs.Posting.{most, size_tells, post_tells}
use Rattle.posting.proofs.posting.post_tells.Goals as goal

pub returns-then-request-gt-MOST : goal.returns-then-request-gt-MOST
unfolding size_tells post_tells
returns-then-request-gt-MOST c = first-two (First TooMany) _ _ (rw (lt-ltb most _ c.if-request-gt-MOST.true))

pub returns-then-res-gt-MOST : goal.returns-then-res-gt-MOST
unfolding size_tells post_tells
returns-then-res-gt-MOST c =
    next _ _ _ (rw (le-ltb most _ c.if-request-gt-MOST.false)) (first-two (Second TooMany) _ _ (rw (lt-ltb most _ c.if-res-gt-MOST.true)))

pub returns : goal.returns
unfolding size_tells post_tells
returns c =
    next _ _ _ (rw (le-ltb most _ c.if-request-gt-MOST.false)) (next _ _ _ (rw (le-ltb most _ c.if-res-gt-MOST.false)) c.pair_by.ensures)
