-- The first place that the set does not take, as `position` finds it.
use Rattle.std.proofs.Common.{ℕ, not, ◌∙◌, rules, tests}
use Rattle.std.proofs.lemmas.Iterator.{YieldsList-from_slice}
use Rattle.std.proofs.lemmas.Iterator.Search.{position_from_yields_List}
use Rattle.laws.proofs.Positions.{unwrapped_least}
use Rattle.text.specs.Characters.{takes, front, stops_at}
use Rattle.text.proofs.characters.front.Goals as goal

pub returns-clause-value : goal.returns-clause-value
unfolding front stops_at
returns-clause-value c =
    let s = c.args.s.now in
    let stops = λ (b : ℕ). not (takes c.args.set b) in
    let found = position_from_yields_List stops _ _ c.position.result c.position.ensures.ran (YieldsList-from_slice s cc) (λ x b q k. search (rules, tests)) in
    c.unwrap_or.ensures ∙ unwrapped_least stops s 0 c.position.result found
