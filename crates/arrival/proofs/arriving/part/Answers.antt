-- After the end nothing; before it what there is room for, and the rest is counted.
use mathlib.Core.Path.{refl}
use native.Mathlib.Nat.{add-sub_cancel_left}
use borrow.Author.Tests.{eq-eqb, ne_eqb}
use Rattle.arrival.specs.Arriving.{has_ended}
use Rattle.arrival.proofs.Steps.{ended-part, open-part}
use Rattle.arrival.proofs.arriving.part.Goals as goal

pub returns-then-past : goal.returns-then-past
unfolding has_ended
returns-then-past c =
    let a = c.args in
    let q = ended-part a.state.now a.room.now (eq-eqb _ _ c.if-past.true) a.part.now in
    rw (← q.0) (record {
      value = refl;
      state_after = q.1.0;
      room_after = q.1.1;
    })

pub returns : goal.returns
unfolding has_ended
returns c =
    let a = c.args in
    let q = open-part a.state.now a.room.now (ne_eqb _ _ c.if-past.false) a.part.now in
    rw (← q.0, c.count_on-over.ensures, c.keep-held.ensures.value, c.keep-held.ensures.room_after, add-sub_cancel_left) (record {
      value = refl;
      state_after = q.1.0;
      room_after = q.1.1;
    })
