-- The links, then the marks.
use Rattle.std.proofs.Common.{rules, ◌≡◌, ◌∙◌, ap, ◌++◌, List, ℕ, drop}
use lib.ListN.{replicate}
use Rattle.keys.proofs.Chained.{none-cleared, links-cleared}
use Rattle.payers.specs.Turns.{dues_key}
use Rattle.dues.proofs.Marks.{marks-unmet}
use Rattle.dues.proofs.steps.marking.Goals as goal

pub chain-requires-clause-links_value : goal.chain-requires-clause-links_value
chain-requires-clause-links_value c = none-cleared _ _ c.clear.ensures

pub returns : goal.returns
unfolding dues_key
returns c =
    let n = c.args.n in
    let e : c.fill.new.self ≡ replicate n 41 = search rules in
    (c.chain.ensures.links_after ∙ links-cleared _ _ _ _ c.clear.ensures, ap (λ (marks : List ℕ). marks ++ drop n c.args.room.now) (e ∙ marks-unmet n))
