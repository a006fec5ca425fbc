-- The pair kind first, then its family; the pair, then its date; then the list.
use Rattle.std.proofs.Common.{rules, ◌≡◌, sym, ◌∙◌}
use Rattle.std.specs.Prelude.{Err, true}
use native.Mathlib.Omega.{arith}
use Rattle.answers.specs.declared.of_two.OfTwo.TheVariants.{Both}
use Rattle.answers.specs.declared.refusing.Refusal.TheVariants.{UnknownKind}
use Rattle.answers.proofs.Tellings.{good}
use Rattle.pair.proofs.Matched.{pair-known}
use Rattle.dues.proofs.Readied.{header-there, ready-unknown, ready-enrolment, ready-refused, ready-pair, ready-date, ready-accepted}
use Rattle.dues.proofs.ready.ready_of.Goals as goal

pub returns-in_default : goal.returns-in_default
returns-in_default c = ready-refused _ _ _ _ (Both UnknownKind) (ready-unknown _ _ _ _ (sym c.pair_of.ensures ∙ c.in_default.is)) _

pub returns-in_default-family : goal.returns-in_default-family
returns-in_default-family c = ready-refused _ _ _ _ (Both UnknownKind) (ready-enrolment _ _ _ _ c.in-Some.pair (sym c.pair_of.ensures ∙ c.in-Some.is) c.in_default-family.is) _

pub returns-in_err-pair_by : goal.returns-in_err-pair_by
returns-in_err-pair_by c =
    let x = c.in_err-pair_by.field-0.0 in
    let e : c.from_residual.result ≡ Err x = search rules in
    rw e (ready-refused _ _ _ _ x (ready-pair _ _ _ _ c.in-Some.pair (sym c.pair_of.ensures ∙ c.in-Some.is) c.in-Debit.is x c.in_err-pair_by.ensures) _)

pub date_tells-requires : goal.date_tells-requires
date_tells-requires c = header-there _ _ _ (good _ c.in_ok-pair_by.ensures)

pub returns-in_err-date_tells : goal.returns-in_err-date_tells
returns-in_err-date_tells c =
    let x = c.in_err-date_tells.field-0.0 in
    let e : c.from_residual-in_err-date_tells.result ≡ Err (Both x) = search rules in
    rw e (ready-refused _ _ _ _ (Both x) (ready-date _ _ _ _ c.in-Some.pair (sym c.pair_of.ensures ∙ c.in-Some.is) c.in-Debit.is _ c.in_ok-pair_by.ensures c.in_err-date_tells.ensures) _)

pub fill-requires : goal.fill-requires
fill-requires c =
    let known = pair-known c.in-Some.pair c.args.request.now c.args.res.now true (good _ c.in_ok-pair_by.ensures) in
    let n = rw c.request_kind.ensures at c.data_count-n.ensures in
    record {
      bound = known.request.lengths.fewest;
      request_bound = known.request.lengths.most;
      bound_2 = known.result.lengths.fewest;
      res_bound = known.result.lengths.most;
      n_value = n;
      n_in_bounds = omega (arith, n, known.request.lengths.most, c.requires);
    }

pub dates_after-requires : goal.dates_after-requires
dates_after-requires c = header-there _ _ _ (good _ c.in_ok-pair_by.ensures)

pub returns : goal.returns
returns c =
    let n = rw c.request_kind.ensures at c.data_count-n.ensures in
    let named = sym c.pair_of.ensures ∙ c.in-Some.is in
    let told = ready-date _ _ _ _ c.in-Some.pair named c.in-Debit.is _ c.in_ok-pair_by.ensures c.in_ok-date_tells.ensures in
    ready-accepted _ _ _ _ c.in-Some.pair named record { n = c.data_count-n.result; dates = c.dates_after.result } told n c.dates_after.ensures _ _ (c.fill.ensures ∙ rw n)
