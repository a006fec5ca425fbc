-- The kind first.
use Rattle.writer.specs.Writing.{write_of, room_after}
use mathlib.Core.Path.{refl}
use Rattle.writer.proofs.writing.write.Goals as goal

pub returns-in_default : goal.returns-in_default
unfolding write_of room_after
returns-in_default c =
    rw (← c.request_of.ensures, c.in_default.is) (record {
      value = refl;
      room_after = refl;
    })

pub returns : goal.returns
unfolding write_of room_after
returns c =
    rw (← c.request_of.ensures, c.in-Some.is) (record {
      value = c.write_as.ensures.value;
      room_after = c.write_as.ensures.room_after;
    })
