-- The loop looks for the first result that cannot stand.
use Rattle.std.proofs.Common.{rules, ◌≡◌}
use Rattle.std.specs.Prelude.{Err}
use native.Mathlib.Omega.{arith}
use Rattle.answers.proofs.Tellings.{loop-start, loop-stop, loop-more, loop-end}
use Rattle.matching.proofs.Found.{request-of, requests-length}
use Rattle.pair.specs.Results.{results_tell}
use Rattle.pair.proofs.results.results_tell.Goals as goal

pub loop-j-init : goal.loop-j-init
loop-j-init c = loop-start _

pub bounds-requests-j : goal.bounds-requests-j
bounds-requests-j c =
    let less = rw (c.data_count-j-end.ensures, c.result_kind.ensures) at c.loop-j-test.true in
    rw (c.requires.requests_value, requests-length c.args.pair c.args.request.now c.args.res.now) (omega (arith, c.requires.res_bound, less))

pub result_tells-requires : goal.result_tells-requires
result_tells-requires c =
    let less = rw (c.data_count-j-end.ensures, c.result_kind.ensures) at c.loop-j-test.true in
    record {
      j_bound = omega (arith, less);
      i_value = rw c.requires.requests_value (request-of c.args.pair c.args.request.now c.args.res.now (omega (arith, c.requires.res_bound)) c.loop-j.j less);
    }

pub returns-in_err-result_tells : goal.returns-in_err-result_tells
unfolding results_tell
returns-in_err-result_tells c =
    let l = c.loop-j in
    let less = rw (c.data_count-j-end.ensures, c.result_kind.ensures) at c.loop-j-test.true in
    let e : c.from_residual.result ≡ Err c.in_err-result_tells.field-0.0 = search rules in
    rw e (loop-stop _ _ l.j _ less l.invariant c.in_err-result_tells.ensures)

pub loop-j-preserved : goal.loop-j-preserved
loop-j-preserved c = loop-more _ c.loop-j.j c.loop-j.invariant c.in_ok-result_tells.ensures

pub returns : goal.returns
unfolding results_tell
returns c =
    let l = c.loop-j in
    rw (← c.result_kind.ensures, ← c.data_count-j-end.ensures) (loop-end _ l.j _ c.loop-j-test.false l.auto.j-end l.invariant)
