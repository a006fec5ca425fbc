-- A refusal counts nothing.
use Rattle.std.specs.Prelude.{Err}
use mathlib.Core.Path.{◌≡◌, refl}
use borrow.Author.Rules.{rules}
use Rattle.answers.specs.OfDay.{told_of_day, day_accepted}
use Rattle.answers.proofs.OfDay.{day-is, day-not}
use Rattle.answers.proofs.Tellings.{day-refusal}
use Rattle.day.specs.Reading.{counted_of}
use Rattle.day.proofs.reading.read.Goals as goal

pub returns-in_err-look : goal.returns-in_err-look
unfolding counted_of
returns-in_err-look c =
    let r = c.in_err-look.field-0.0 in
    let e : c.from_residual.result ≡ Err r = search rules in
    rw (e, ← c.in_err-look.ensures.told, day-is (told_of_day r) (day-refusal r))

pub returns : goal.returns
unfolding counted_of
returns c =
    let w = c.in_ok-look in
    rw (← w.ensures.told, day-not day_accepted refl, ← (rw w.ensures.of at w.field-0.by_count))
