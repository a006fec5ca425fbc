-- After the end nothing; before it the state is marked.
use borrow.Author.Tests.{eq-eqb, ne_eqb}
use Rattle.arrival.specs.Arriving.{has_ended}
use Rattle.arrival.proofs.Steps.{ended-end, open-end}
use Rattle.arrival.proofs.ending.end.Goals as goal

pub returns-then-past : goal.returns-then-past
unfolding has_ended
returns-then-past c =
    let a = c.args in
    let q = ended-end a.state.now a.room.now (eq-eqb _ _ c.if-past.true) a.kind in
    record {
      value = q.0;
      state_after = q.1;
    }

pub returns : goal.returns
unfolding has_ended
returns c =
    let a = c.args in
    let q = open-end a.state.now a.room.now (ne_eqb _ _ c.if-past.false) a.kind in
    rw c.end_named.ensures (record {
      value = q.0;
      state_after = q.1;
    })
