-- A refusal or all lines.
use Rattle.answers.proofs.Tellings.{two-refuses}
use Rattle.posting.proofs.Posted.{text-refused, text-accepted, posted-short, posted-known}
use mathlib.Core.Path.{refl, sym, ◌∙◌}
use native.Mathlib.Omega.{arith}
use Rattle.posting.proofs.posting.compose.Goals as goal

pub put_refusal-requires : goal.put_refusal-requires
put_refusal-requires c = rw c.requires (omega arith)

pub returns-in-Err : goal.returns-in-Err
returns-in-Err c =
    let e = c.in-Err.ensures in
    c.put_refusal.ensures ∙ rw (c.requires, c.into.ensures, text-refused _ _ _ e (two-refuses c.in-Err.refusal)) refl

pub results_for-results-requires : goal.results_for-results-requires
results_for-results-requires c =
    let known = posted-known _ _ _ c.in_default.ensures refl in
    record {
      bound = known.request.lengths.fewest;
      bound_2 = known.result.lengths.fewest;
      res_bound = known.result.lengths.most;
    }

pub put_all-requires : goal.put_all-requires
put_all-requires c =
    let known = posted-known _ _ _ c.in_default.ensures refl in
    record {
      request_len_bound = posted-short _ _ _ c.in_default.ensures refl;
      request_bound = known.request.lengths.most;
      results_value = c.results_for-results.ensures;
      text_empty = c.requires;
    }

pub returns : goal.returns
returns c = c.put_all.ensures ∙ sym (text-accepted _ _ _ c.in_default.ensures refl)
