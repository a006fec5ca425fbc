-- The units, then their keys and frames by the places of the units.
use Rattle.std.specs.Prelude.{Err}
use borrow.Author.Rules.{rules}
use lib.ListN.{replicate}
use mathlib.Core.Path.{◌≡◌, ap, ◌∙◌}
use Rattle.answers.proofs.Tellings.{first, next, good}
use Rattle.kinds.specs.Kinds.{limit}
use Rattle.evidence.proofs.Looked.{places-long}
use Rattle.evidence_builder.specs.Units.{place_of, blocks_to}
use Rattle.evidence_writer.proofs.Decides.{records-good}
use Rattle.evidence_writer.proofs.Told.{all-good}
use Rattle.evidence_writer.proofs.Listed.{place_at}
use Rattle.evidence_writer.proofs.deciding.decide_units.Goals as goal

pub returns-in_err-judged-clause-answer_value : goal.returns-in_err-judged-clause-answer_value
returns-in_err-judged-clause-answer_value c =
    let e : c.from_residual.result ≡ Err c.in_err-judged.field-0.0 = search rules in
    rw e (first _ _ _ c.in_err-judged.ensures.answer_value)

pub rest_tells-requires : goal.rest_tells-requires
rest_tells-requires c =
    let a = c.args in
    let k = c.in_ok-judged.ensures in
    let none = good _ k.answer_value in
    let e = k.count_value ∙ all-good a.by.exempt a.by.header.now a.by.code.now a.x.now none in
    let g = records-good a.by.exempt a.by.header.now a.by.code.now a.x.now none in
    record {
      n_le_limit = rw e g.0;
      n_in_bounds = rw (k.places_after, ← k.count_value) (places-long (place_of a.x.now) _ _);
      n_value = e;
      by_index = λ i l. place_at a.x.now (replicate limit 0) _ _ i k.places_after (rw (← k.count_value) l);
      by_index_2 = λ i l. (g.1.0 i (rw (← e) l)).inside;
    }

pub returns-in_err-rest_tells-clause-answer_value : goal.returns-in_err-rest_tells-clause-answer_value
returns-in_err-rest_tells-clause-answer_value c =
    let e : c.from_residual-in_err-rest_tells.result ≡ Err c.in_err-rest_tells.field-0.0 = search rules in
    rw e (next _ _ _ c.in_ok-judged.ensures.answer_value c.in_err-rest_tells.ensures)

pub returns : goal.returns
returns c =
    let k = c.in_ok-judged.ensures in
    let all = all-good _ _ _ _ (good _ k.answer_value) in
    record {
      answer_value = next _ _ _ k.answer_value c.in_ok-rest_tells.ensures;
      count_value = k.count_value ∙ all;
      blocks_value = k.blocks_value ∙ ap (blocks_to c.args.x.now) all;
    }
