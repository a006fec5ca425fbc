-- The pair's answer, then whether there is such a request.
use Rattle.std.proofs.Common.{rules, ◌≡◌, ◌-◌, true, sym, ◌∙◌}
use Rattle.std.specs.Prelude.{Err}
use native.Mathlib.Omega.{arith}
use Rattle.answers.proofs.Tellings.{good, bad-two}
use Rattle.answers.proofs.Refusals.{refuses-is, refuses-not}
use Rattle.matching.proofs.Found.{result-of}
use Rattle.outcomes.proofs.Outcome.{asks-for-is, asked-for}
use Rattle.pair.specs.Pairing.{pair_by}
use Rattle.outcomes.specs.Outcomes.{outcome_as}
use Rattle.outcomes.proofs.asking.outcome_as.Goals as goal

pub returns-in_err-pair_by : goal.returns-in_err-pair_by
unfolding outcome_as
returns-in_err-pair_by c =
    let e : c.from_residual.result ≡ Err c.in_err-pair_by.field-0.0 = search rules in
    let told = c.in_err-pair_by.ensures in
    let a = c.args in
    rw (e, refuses-is (pair_by a.pair a.request.now a.res.now true) (bad-two _ _ told)) (rw told)

pub returns-then-not-asks_for : goal.returns-then-not-asks_for
unfolding outcome_as
returns-then-not-asks_for c =
    let a = c.args in
    rw (
      refuses-not (pair_by a.pair a.request.now a.res.now true) (good _ c.in_ok-pair_by.ensures),
      ← c.request_kind.ensures,
      ← c.data_count-n.ensures,
      ← c.asks_for.ensures,
      c.if-not-asks_for.true,
    )

pub overflow_sub-i : goal.overflow_sub-i
overflow_sub-i c = (asks-for-is _ _ (sym c.asks_for.ensures ∙ c.if-not-asks_for.false)).0

pub results_for-results-requires : goal.results_for-results-requires
results_for-results-requires c =
    let a = c.args in
    let asked = asked-for a.pair a.request.now a.res.now a.rec _ _ _ (good _ c.in_ok-pair_by.ensures) c.request_kind.ensures c.data_count-n.ensures c.asks_for.ensures c.if-not-asks_for.false in
    record {
      bound = asked.requests.fewest;
      bound_2 = asked.results.fewest;
      res_bound = asked.results.most;
    }

pub offset_bounds-results-i : goal.offset_bounds-results-i
offset_bounds-results-i c =
    let a = c.args in
    let asked = asked-for a.pair a.request.now a.res.now a.rec _ _ _ (good _ c.in_ok-pair_by.ensures) c.request_kind.ensures c.data_count-n.ensures c.asks_for.ensures c.if-not-asks_for.false in
    omega (arith, asked.below)

pub bounds-results-i : goal.bounds-results-i
bounds-results-i c =
    let a = c.args in
    let asked = asked-for a.pair a.request.now a.res.now a.rec _ _ _ (good _ c.in_ok-pair_by.ensures) c.request_kind.ensures c.data_count-n.ensures c.asks_for.ensures c.if-not-asks_for.false in
    asked.below

pub outcome_at-requires : goal.outcome_at-requires
outcome_at-requires c =
    let a = c.args in
    let asked = asked-for a.pair a.request.now a.res.now a.rec _ _ _ (good _ c.in_ok-pair_by.ensures) c.request_kind.ensures c.data_count-n.ensures c.asks_for.ensures c.if-not-asks_for.false in
    record {
      i_bound = omega (arith, asked.inside);
      j_value = rw c.results_for-results.ensures (result-of a.pair a.request.now a.res.now (omega (arith, asked.requests.most)) (a.rec - 1) asked.inside);
    }

pub returns : goal.returns
unfolding outcome_as
returns c =
    let a = c.args in
    rw (
      refuses-not (pair_by a.pair a.request.now a.res.now true) (good _ c.in_ok-pair_by.ensures),
      ← c.request_kind.ensures,
      ← c.data_count-n.ensures,
      ← c.asks_for.ensures,
      c.if-not-asks_for.false,
      c.outcome_at.ensures,
    )
