-- One line after the other.
use Rattle.laws.proofs.Joins.{joined-start}
use Rattle.matching.proofs.Found.{result-of, results-length}
use Rattle.posting.specs.Posting.{line_at}
use Rattle.kinds.specs.Pairs.{debit_pair}
use Rattle.posting.proofs.Texts.{line_more}
use mathlib.Core.List.{append-nil}
use mathlib.Core.Path.{refl, sym, ◌∙◌}
use native.Mathlib.Omega.{arith}
use Rattle.posting.proofs.posting.put_requests.Goals as goal

pub loop-i-init : goal.loop-i-init
loop-i-init c = (rw joined-start (sym (append-nil c.args.text.now)), omega arith)

pub bounds-results-i : goal.bounds-results-i
bounds-results-i c = rw (c.requires.results_value, results-length debit_pair c.args.request.now c.args.res.now) (omega (arith, c.requires.n_le_limit, c.loop-i-test.true))

pub outcome_at-outcome-requires : goal.outcome_at-outcome-requires
outcome_at-outcome-requires c =
    let a = c.args in
    let less = c.loop-i-test.true in
    record {
      i_bound = omega (arith, c.requires.n_value, less);
      j_value = rw c.requires.results_value (result-of debit_pair a.request.now a.res.now (omega (arith, c.requires.n_value, c.requires.n_le_limit)) c.loop-i.i (omega (arith, c.requires.n_value, less)));
    }

pub loop-i-preserved : goal.loop-i-preserved
unfolding line_at
loop-i-preserved c =
    let s = c.put_request in
    let l = c.loop-i in
    let a = c.args in (
      line_more (line_at a.request.now a.res.now) l.i a.text.now l.text _ l.invariant.0 (s.ensures.text ∙ rw c.outcome_at-outcome.ensures refl),
      omega (arith, l.invariant.1, s.ensures.upper_bound),
    )
