-- All are 0.
use Rattle.keys.specs.Chains.{no_links}
use borrow.Author.Rules.{rules}
use Rattle.keys.proofs.chains.clear.Goals as goal

pub returns : goal.returns
unfolding no_links
returns c = search rules
