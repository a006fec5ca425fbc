-- One stage after the other.
use Rattle.std.specs.Prelude.{Err}
use borrow.Author.Rules.{rules}
use mathlib.Core.Path.{◌≡◌}
use Rattle.answers.proofs.Tellings.{first, next, good}
use Rattle.reader.proofs.Lengths.{length-good}
use Rattle.reader.specs.Reading.{read_as}
use Rattle.reader.proofs.reading.read_as.Goals as goal

pub returns-in_err-length_tells : goal.returns-in_err-length_tells
unfolding read_as
returns-in_err-length_tells c =
    let e : c.from_residual.result ≡ Err c.in_err-length_tells.field-0.0 = search rules in
    rw e (first _ _ _ c.in_err-length_tells.ensures)

pub returns-in_err-records_tell : goal.returns-in_err-records_tell
unfolding read_as
returns-in_err-records_tell c =
    let e : c.from_residual-in_err-records_tell.result ≡ Err c.in_err-records_tell.field-0.0 = search rules in
    rw e (next _ _ _ c.in_ok-length_tells.ensures (first _ _ _ c.in_err-records_tell.ensures))

pub totals_tell-requires : goal.totals_tell-requires
totals_tell-requires c =
    let whole = length-good _ _ (good _ c.in_ok-length_tells.ensures) in
    record { bound = whole.fewest; file_bound = whole.most }

pub returns-in_err-totals_tell : goal.returns-in_err-totals_tell
unfolding read_as
returns-in_err-totals_tell c =
    let e : c.from_residual-in_err-totals_tell.result ≡ Err c.in_err-totals_tell.field-0.0 = search rules in
    rw e (next _ _ _ c.in_ok-length_tells.ensures (next _ _ _ c.in_ok-records_tell.ensures (first _ _ _ c.in_err-totals_tell.ensures)))

pub keys_tell-requires : goal.keys_tell-requires
keys_tell-requires c =
    let whole = length-good _ _ (good _ c.in_ok-length_tells.ensures) in
    record { bound = whole.fewest; file_bound = whole.most }

pub returns : goal.returns
unfolding read_as
returns c = next _ _ _ c.in_ok-length_tells.ensures (next _ _ _ c.in_ok-records_tell.ensures (next _ _ _ c.in_ok-totals_tell.ensures c.keys_tell.ensures))
