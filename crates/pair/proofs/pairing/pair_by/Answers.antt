-- One stage after the other.
use Rattle.std.proofs.Common.{rules, ◌≡◌, sym, ◌∙◌}
use Rattle.std.specs.Prelude.{Err}
use Rattle.kinds.specs.Pairs.{request_kind, result_kind}
use Rattle.answers.specs.Answers.{on_side}
use Rattle.answers.specs.Refusing.{answer_of}
use Rattle.answers.specs.OfTwo.{told_of_two}
use Rattle.answers.specs.declared.of_two.OfTwo.TheVariants.{Both}
use Rattle.answers.proofs.Tellings.{bad, good, bad-two, first-two}
use Rattle.reader.proofs.Exact.{accepted-meets}
use Rattle.pair.specs.Pairing.{pair_by}
use Rattle.pair.proofs.Stages.{by_result, by-headers, by-room, by-results}
use Rattle.pair.proofs.pairing.pair_by.Goals as goal

pub returns-in_err-map_err : goal.returns-in_err-map_err
unfolding pair_by
returns-in_err-map_err c =
    let e : c.from_residual.result ≡ Err c.in_err-map_err.field-0.0 = search rules in
    let told : told_of_two c.in_err-map_err.field-0.0 ≡ on_side 1 (answer_of c.read_as.result) = search rules in
    rw e (first-two _ _ _ (rw (c.read_as.ensures, c.request_kind.ensures) at told))

pub returns-in_err-map_err-2 : goal.returns-in_err-map_err-2
returns-in_err-map_err-2 c =
    let a = c.args in
    let e : c.from_residual-in_err-map_err-2.result ≡ Err c.in_err-map_err-2.field-0.0 = search rules in
    let request : (answer_of c.read_as.result).number ≡ 0 = search rules in
    let told : told_of_two c.in_err-map_err-2.field-0.0 ≡ on_side 2 (answer_of c.read_as-2.result) = search rules in
    let side = rw (c.read_as-2.ensures, c.result_kind.ensures) at told in
    rw e (side ∙ sym (by_result a.pair a.request.now a.res.now a.fits (rw (c.read_as.ensures, c.request_kind.ensures) at request) (bad-two _ _ side)))

pub headers_tell-requires : goal.headers_tell-requires
headers_tell-requires c =
    let a = c.args in
    let request : (answer_of c.read_as.result).number ≡ 0 = search rules in
    let result : (answer_of c.read_as-2.result).number ≡ 0 = search rules in
    record {
      bound = (accepted-meets (request_kind a.pair) a.request.now (rw (c.read_as.ensures, c.request_kind.ensures) at request)).lengths.fewest;
      bound_2 = (accepted-meets (result_kind a.pair) a.res.now (rw (c.read_as-2.ensures, c.result_kind.ensures) at result)).lengths.fewest;
    }

pub returns-in_err-headers_tell : goal.returns-in_err-headers_tell
returns-in_err-headers_tell c =
    let a = c.args in
    let e : c.from_residual-in_err-headers_tell.result ≡ Err (Both c.in_err-headers_tell.field-0.0) = search rules in
    let request : (answer_of c.read_as.result).number ≡ 0 = search rules in
    let result : (answer_of c.read_as-2.result).number ≡ 0 = search rules in
    let told = c.in_err-headers_tell.ensures in
    rw e
    (told ∙
    sym (by-headers a.pair a.request.now a.res.now a.fits (rw (c.read_as.ensures, c.request_kind.ensures) at request) (rw (c.read_as-2.ensures, c.result_kind.ensures) at result) (bad _ _ told)))

pub returns-then-not-fits : goal.returns-then-not-fits
returns-then-not-fits c =
    let a = c.args in
    let request : (answer_of c.read_as.result).number ≡ 0 = search rules in
    let result : (answer_of c.read_as-2.result).number ≡ 0 = search rules in
    sym (by-room a.pair a.request.now a.res.now a.fits (rw (c.read_as.ensures, c.request_kind.ensures) at request) (rw (c.read_as-2.ensures, c.result_kind.ensures) at result) (good _ c.in_ok-headers_tell.ensures) c.if-not-fits.true)

pub requests_for-requests-requires : goal.requests_for-requests-requires
requests_for-requests-requires c =
    let a = c.args in
    let request : (answer_of c.read_as.result).number ≡ 0 = search rules in
    let result : (answer_of c.read_as-2.result).number ≡ 0 = search rules in
    let of-request = (accepted-meets (request_kind a.pair) a.request.now (rw (c.read_as.ensures, c.request_kind.ensures) at request)).lengths in
    record {
      bound = of-request.fewest;
      request_bound = of-request.most;
      bound_2 = (accepted-meets (result_kind a.pair) a.res.now (rw (c.read_as-2.ensures, c.result_kind.ensures) at result)).lengths.fewest;
    }

pub results_tell-requires : goal.results_tell-requires
results_tell-requires c =
    let a = c.args in
    let result : (answer_of c.read_as-2.result).number ≡ 0 = search rules in
    record {
      res_bound = (accepted-meets (result_kind a.pair) a.res.now (rw (c.read_as-2.ensures, c.result_kind.ensures) at result)).lengths.most;
      requests_value = c.requests_for-requests.ensures;
    }

pub returns-in_err-results_tell : goal.returns-in_err-results_tell
returns-in_err-results_tell c =
    let a = c.args in
    let e : c.from_residual-in_err-results_tell.result ≡ Err (Both c.in_err-results_tell.field-0.0) = search rules in
    let request : (answer_of c.read_as.result).number ≡ 0 = search rules in
    let result : (answer_of c.read_as-2.result).number ≡ 0 = search rules in
    rw e
    (c.in_err-results_tell.ensures ∙
    sym (by-results a.pair a.request.now a.res.now a.fits (rw (c.read_as.ensures, c.request_kind.ensures) at request) (rw (c.read_as-2.ensures, c.result_kind.ensures) at result) (good _ c.in_ok-headers_tell.ensures) c.if-not-fits.false))

pub returns : goal.returns
returns c =
    let a = c.args in
    let request : (answer_of c.read_as.result).number ≡ 0 = search rules in
    let result : (answer_of c.read_as-2.result).number ≡ 0 = search rules in
    c.in_ok-results_tell.ensures ∙
    sym (by-results a.pair a.request.now a.res.now a.fits (rw (c.read_as.ensures, c.request_kind.ensures) at request) (rw (c.read_as-2.ensures, c.result_kind.ensures) at result) (good _ c.in_ok-headers_tell.ensures) c.if-not-fits.false)
