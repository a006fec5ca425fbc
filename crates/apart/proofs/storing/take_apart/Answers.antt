-- The kind first.
use mathlib.Core.Path.{refl}
use Rattle.apart.specs.Taking.{apart_told, apart_stored, apart_of, apart_after}
use Rattle.apart.proofs.storing.take_apart.Goals as goal

pub returns-in_default : goal.returns-in_default
unfolding apart_told apart_stored apart_of apart_after
returns-in_default c =
    rw (← c.request_of.ensures, c.in_default.is) (record {
      value = refl;
      room_after = refl;
    })

pub returns : goal.returns
unfolding apart_told apart_stored apart_of apart_after
returns c =
    rw (← c.request_of.ensures, c.in-Some.is) (record {
      value = c.take_as.ensures.value;
      room_after = c.take_as.ensures.room_after;
    })
