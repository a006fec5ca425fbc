-- Decided first; only an accepted pair fills the lists.
use Rattle.std.proofs.Common.{rules, ◌≡◌, length, sym, ◌∙◌}
use Rattle.std.specs.Prelude.{Err}
use Rattle.answers.proofs.Tellings.{good, bad-two}
use Rattle.pair.proofs.Matched.{pair-known}
use Rattle.pair.proofs.Stages.{pair_fits, lent_fits, lent-told, list-filled, list-kept}
use Rattle.pair.proofs.pairing.pair_as.Goals as goal

pub returns-in_err-pair_by : goal.returns-in_err-pair_by
returns-in_err-pair_by c =
    let a = c.args in
    let e : c.from_residual.result ≡ Err c.in_err-pair_by.field-0.0 = search rules in
    let told = lent-told a.pair a.request.now a.res.now (length a.taken.now) (length a.not_taken.now) c.data_count-n.result c.request_kind.result c.lists_fit-fits.result c.request_kind.ensures c.data_count-n.ensures c.lists_fit-fits.ensures _ c.in_err-pair_by.ensures in
    rw e (record {
      value = told;
      taken_after = sym (list-kept _ _ _ _ (bad-two _ _ told));
      not_taken_after = sym (list-kept _ _ _ _ (bad-two _ _ told));
    })

pub fill-requires : goal.fill-requires
fill-requires c =
    let a = c.args in
    let fits = c.lists_fit-fits.result in
    let e = good _ c.in_ok-pair_by.ensures in
    let known = pair-known a.pair a.request.now a.res.now fits e in
    let room = lent_fits a.pair a.request.now a.res.now (length a.taken.now) (length a.not_taken.now) c.data_count-n.result c.request_kind.result fits c.request_kind.ensures c.data_count-n.ensures c.lists_fit-fits.ensures (pair_fits a.pair a.request.now a.res.now fits e) in
    record {
      bound = known.request.lengths.fewest;
      request_bound = known.request.lengths.most;
      bound_2 = known.result.lengths.fewest;
      res_bound = known.result.lengths.most;
      request_in_bounds = room.0;
      request_in_bounds_2 = room.1;
    }

pub returns : goal.returns
returns c =
    let a = c.args in
    let told = lent-told a.pair a.request.now a.res.now (length a.taken.now) (length a.not_taken.now) c.data_count-n.result c.request_kind.result c.lists_fit-fits.result c.request_kind.ensures c.data_count-n.ensures c.lists_fit-fits.ensures _ c.in_ok-pair_by.ensures in
    let zero = good _ told in
    record {
      value = told;
      taken_after = c.fill.ensures.taken_after ∙ sym (list-filled _ _ _ _ zero);
      not_taken_after = c.fill.ensures.not_taken_after ∙ sym (list-filled _ _ _ _ zero);
    }
