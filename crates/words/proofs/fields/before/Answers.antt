-- The first place of b, as `position` finds it.
use Rattle.std.proofs.Common.{ℕ, eqb, ◌∙◌, rules, tests}
use Rattle.std.proofs.lemmas.Iterator.{YieldsList-from_slice}
use Rattle.std.proofs.lemmas.Iterator.Search.{position_from_yields_List}
use Rattle.laws.proofs.Positions.{unwrapped_position}
use Rattle.words.specs.Fields.{index_of}
use Rattle.words.proofs.fields.before.Goals as goal

pub returns-clause-value : goal.returns-clause-value
unfolding index_of
returns-clause-value c =
    let s = c.args.s.now in
    let is = λ (x : ℕ). eqb x c.args.b in
    let found = position_from_yields_List is _ _ c.position.result c.position.ensures.ran (YieldsList-from_slice s cc) (λ x b q k. search (rules, tests)) in
    c.unwrap_or.ensures ∙ unwrapped_position is s 0 c.position.result found
