-- Stage by stage.
use Rattle.std.specs.Prelude.{Err}
use borrow.Author.Rules.{rules}
use mathlib.Core.Path.{◌≡◌, sym, ◌∙◌}
use native.Mathlib.Omega.{arith}
use Rattle.answers.proofs.Tellings.{first, next, good}
use Rattle.evidence.specs.Judged.{byte_of}
use Rattle.evidence.specs.Reading.{read_of}
use Rattle.evidence.specs.Stopping.{stopped_at}
use Rattle.evidence.proofs.Stages.{size-good}
use Rattle.evidence.proofs.Looked.{none-size, none-header, good-records, all-good, records-few, unit-inside, places-none, places-filled, place_at, places-long, first-inside}
use Rattle.evidence.proofs.Stopped.{looked-both, looked-answer, looked-count}
use Rattle.evidence.proofs.reading.look.Goals as goal

pub returns-in_err-size_tells : goal.returns-in_err-size_tells
unfolding read_of
returns-in_err-size_tells c =
    let told = c.in_err-size_tells.ensures in
    let none = none-size _ _ _ told in
    let e : c.from_residual.result ≡ Err (stopped_at c.in_err-size_tells.field-0.0 0) = search rules in
    record {
      value = rw e (looked-both _ _ 0 _ (first _ _ _ told) (sym none));
      places_after = places-none _ _ _ none;
    }

pub header_tells-requires : goal.header_tells-requires
header_tells-requires c = omega (arith, (size-good _ (good _ c.in_ok-size_tells.ensures)).fewest)

pub returns-in_err-header_tells : goal.returns-in_err-header_tells
unfolding read_of
returns-in_err-header_tells c =
    let told = c.in_err-header_tells.ensures in
    let none = none-header _ _ (good _ c.in_ok-size_tells.ensures) _ told in
    let e : c.from_residual-in_err-header_tells.result ≡ Err (stopped_at c.in_err-header_tells.field-0.0 0) = search rules in
    record {
      value = rw e (looked-both _ _ 0 _ (next _ _ _ c.in_ok-size_tells.ensures (first _ _ _ told)) (sym none));
      places_after = places-none _ _ _ none;
    }

pub records_tell-requires : goal.records_tell-requires
records_tell-requires c =
    let z = size-good _ (good _ c.in_ok-size_tells.ensures) in
    record {
      bound = z.fewest;
      file_bound = z.most;
      places_len = c.requires;
    }

pub returns-in_err-count : goal.returns-in_err-count
unfolding read_of
returns-in_err-count c =
    let stopped = c.in_err-count.field-0.0 in
    let k = c.in_err-count.ensures in
    let z = good _ c.in_ok-size_tells.ensures in
    let h = good _ c.in_ok-header_tells.ensures in
    let e : c.from_residual-in_err-count.result ≡ Err stopped = search rules in
    let told = first _ _ _ (looked-answer _ _ stopped.good _ k.value) in
    record {
      value = rw e (looked-both _ _ stopped.good _ (next _ _ _ c.in_ok-size_tells.ensures (next _ _ _ c.in_ok-header_tells.ensures told)) (looked-count _ _ _ _ k.value ∙ sym (good-records _ _ z h)));
      places_after = k.places_after ∙ places-filled _ _ _ z h;
    }

pub rest_tells-requires : goal.rest_tells-requires
rest_tells-requires c =
    let a = c.args in
    let n = c.in_ok-count.count in
    let k = c.in_ok-count.ensures in
    let z = good _ c.in_ok-size_tells.ensures in
    let h = good _ c.in_ok-header_tells.ensures in
    let r = good _ (looked-answer _ _ n _ k.value) in
    let counted = looked-count _ _ n _ k.value in
    let e = counted ∙ all-good a.exempt a.file.now r in
    let some = (size-good a.file.now z).fewest in
    let filled = k.places_after ∙ places-filled a.exempt a.file.now a.places.now z h in
    record {
      bound = some;
      n_le_limit = rw e (records-few a.exempt a.file.now r);
      n_value = e;
      by_index = λ i l. rw filled (place_at a.exempt a.file.now a.places.now i (rw (good-records a.exempt a.file.now z h, ← counted) l));
      by_index_2 = λ i l. first-inside a.file.now i (rw (← e) l);
      n_in_bounds = rw (k.places_after, ← counted) (places-long (byte_of a.file.now) n _);
      by_index_3 = λ i l. unit-inside a.exempt a.file.now r some i (rw (← e) l);
    }

pub returns-in-Ok : goal.returns-in-Ok
unfolding read_of
returns-in-Ok c =
    let n = c.in_ok-count.count in
    let k = c.in_ok-count.ensures in
    let z = good _ c.in_ok-size_tells.ensures in
    let h = good _ c.in_ok-header_tells.ensures in
    let told = next _ _ _ c.in_ok-size_tells.ensures (next _ _ _ c.in_ok-header_tells.ensures (next _ _ _ (looked-answer _ _ n _ k.value) c.in-Ok.ensures)) in
    record {
      value = looked-both _ _ n _ told (looked-count _ _ n _ k.value ∙ sym (good-records _ _ z h));
      places_after = k.places_after ∙ places-filled _ _ _ z h;
    }

pub returns-in-Err : goal.returns-in-Err
unfolding read_of
returns-in-Err c =
    let n = c.in_ok-count.count in
    let k = c.in_ok-count.ensures in
    let z = good _ c.in_ok-size_tells.ensures in
    let h = good _ c.in_ok-header_tells.ensures in
    let told = next _ _ _ c.in_ok-size_tells.ensures (next _ _ _ c.in_ok-header_tells.ensures (next _ _ _ (looked-answer _ _ n _ k.value) c.in-Err.ensures)) in
    record {
      value = looked-both _ _ n _ told (looked-count _ _ n _ k.value ∙ sym (good-records _ _ z h));
      places_after = k.places_after ∙ places-filled _ _ _ z h;
    }
