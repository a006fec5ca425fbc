-- The length, then the room, then the reader.
use Rattle.std.specs.Prelude.{Err}
use mathlib.Core.Path.{◌≡◌, sym}
use borrow.Author.Rules.{rules}
use Rattle.answers.proofs.Tellings.{first, next}
use Rattle.arrival.specs.Ending.{end_as}
use Rattle.arrival.proofs.Steps.{then-eight, room-enough, room-passed, room-other}
use Rattle.arrival.proofs.ending.end_as.Goals as goal
use Rattle.arrival.proofs.ending.end_as.Goals.{then-past-ne0-via-then-past-ne0, then-past-ne0-via-else-past-ne0+then-room-kept}

pub returns-in_err-length_tells : goal.returns-in_err-length_tells
unfolding end_as
returns-in_err-length_tells c =
    let e : c.from_residual.result ≡ Err c.in_err-length_tells.field-0.0 = search rules in
    rw (e, ← c.count_on.ensures) (first _ _ _ c.in_err-length_tells.ensures)

pub returns-then-past-ne0 : goal.returns-then-past-ne0
unfolding end_as
returns-then-past-ne0 c =
    let a = c.args in
    rw (← c.count_on.ensures)
    (next _ _ _ c.in_ok-length_tells.ensures (sym (
    then-eight _ _ (elim c.then-past-ne0.branch [
      | then-past-ne0-via-then-past-ne0 w ↦ room-passed a.kept a.past _ w.if-past-ne0.true
      | then-past-ne0-via-else-past-ne0+then-room-kept w ↦ room-other a.kept a.past _ w.if-room-kept.true
    ]))))

pub returns : goal.returns
unfolding end_as
returns c =
    let a = c.args in
    let enough = room-enough a.kept a.past _ c.if-past-ne0.false c.if-room-kept.false in
    rw (← c.count_on.ensures) (next _ _ _ c.in_ok-length_tells.ensures (next _ _ _ (sym enough) c.read_as.ensures))
