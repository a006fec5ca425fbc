-- The first place that has the code.
use Rattle.std.proofs.Common.{rules, tests, eqb, ◌∙◌}
use Rattle.std.proofs.lemmas.Iterator.{YieldsList-from_slice}
use Rattle.std.proofs.lemmas.Iterator.Search.{position_from_yields_List}
use Rattle.tables.specs.Codes.{table_codes, bank_codes, centre_codes}
use Rattle.tables.proofs.Among.{place_found}
use Rattle.tables.proofs.codes.place.Goals as goal

pub returns : goal.returns
unfolding table_codes bank_codes centre_codes
returns c =
    let first = position_from_yields_List (λ x. eqb x c.args.code) _ _ c.position.result c.position.ensures.ran (YieldsList-from_slice table_codes c.iter.ensures.rest) (λ x b q k. search (rules, tests)) in
    first ∙ place_found table_codes c.args.code
