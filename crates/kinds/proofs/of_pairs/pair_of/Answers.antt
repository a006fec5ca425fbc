-- The first pair kind of the table whose request has the name.
use Rattle.std.proofs.Common.{rules, tests, eqb, sym, ◌∙◌}
use Rattle.std.proofs.lemmas.Iterator.{YieldsList-from_slice}
use Rattle.std.proofs.lemmas.Iterator.Adapters.{option_map_id}
use Rattle.std.proofs.lemmas.Iterator.Consumers.{YieldsList-from_copied}
use Rattle.std.proofs.lemmas.Iterator.Search.{find_from_yields_List}
use Rattle.kinds.specs.Pairs.{pairs}
use Rattle.kinds.proofs.Finding.{pair_found}
use Rattle.kinds.proofs.of_pairs.pair_of.Goals as goal

pub returns : goal.returns
unfolding pairs
returns c =
    let first = find_from_yields_List (λ p. eqb p.request.name c.args.name) _ _ c.find.result c.find.ensures.ran (YieldsList-from_copied (YieldsList-from_slice pairs (search rules))) (λ x b q k. search (rules, tests)) in
    sym (option_map_id c.find.result) ∙ (first ∙ sym (pair_found c.args.name))
