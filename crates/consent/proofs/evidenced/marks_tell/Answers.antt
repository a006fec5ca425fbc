-- The first that has no mark, as `position` finds it.
use Rattle.std.proofs.Common.{rules, tests, not, sym, ◌∙◌}
use Rattle.std.specs.Prelude.{Some, None}
use Rattle.std.proofs.lemmas.Iterator.{YieldsList-from_slice}
use Rattle.std.proofs.lemmas.Iterator.Search.{position_from_yields_List}
use Rattle.consent.proofs.Marked.{marks-told}
use Rattle.consent.proofs.evidenced.marks_tell.Goals as goal

pub returns-in-Some : goal.returns-in-Some
returns-in-Some c =
    let marks = c.args.marks.now in
    let found = position_from_yields_List not _ _ c.position.result c.position.ensures.ran (YieldsList-from_slice marks cc) (λ x b q k. search (rules, tests)) in
    marks-told marks (Some c.in-Some.j) (sym c.in-Some.is ∙ found)

pub returns : goal.returns
returns c =
    let marks = c.args.marks.now in
    let found = position_from_yields_List not _ _ c.position.result c.position.ensures.ran (YieldsList-from_slice marks cc) (λ x b q k. search (rules, tests)) in
    marks-told marks None (sym c.in_default.is ∙ found)
