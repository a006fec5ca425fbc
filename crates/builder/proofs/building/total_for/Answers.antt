-- The item's total by its place.
use Rattle.std.proofs.Common.{◌≡◌, ◌∙◌, length, get_or, eqb, rules, tests}
use Rattle.std.proofs.lemmas.Iterator.{YieldsList-from_slice}
use Rattle.std.proofs.lemmas.Iterator.Search.{position_from_yields_List}
use Rattle.laws.specs.Least.{least}
use Rattle.laws.proofs.Positions.{unwrapped_least}
use Rattle.tables.specs.declared.totals.Total.{Total}
use Rattle.tables.specs.Totals.{no_total, totals_of}
use Rattle.builder.specs.Records.{total_is, total_for}
use Rattle.builder.proofs.building.total_for.Goals as goal

pub returns : goal.returns
unfolding total_for total_is
returns c =
    let a = c.args in
    let totals = c.totals_of-totals in
    let says = λ (t : Total). eqb t.0 a.item in
    let p = c.position-place in
    let found = position_from_yields_List says _ _ p.result p.ensures.ran (YieldsList-from_slice totals.result.now cc) (λ x b q k. search (rules, tests)) in
    let place : c.unwrap_or-t.result ≡ least (λ t. says (get_or (totals_of a.kind) t no_total)) (length (totals_of a.kind)) =
    c.unwrap_or-t.ensures ∙ (unwrapped_least says totals.result.now no_total p.result found ∙ rw totals.ensures) in
    let value : c.unwrap_or.result ≡ get_or a.sums c.unwrap_or-t.result 0 = search rules in
    value ∙ rw place
