-- Two links are set.
use Rattle.keys.specs.Chains.{slots, links_with}
use borrow.Author.Rules.{rules}
use Rattle.keys.proofs.chains.join.Goals as goal

pub bounds-links-i : goal.bounds-links-i
unfolding slots
bounds-links-i c = search rules

pub returns : goal.returns
unfolding slots links_with
returns c = rw c.slot_of-b.ensures.value
