-- Found, if there is a last one.
use Rattle.keys.proofs.Chained.{some-from}
use Rattle.keys.specs.Chains.{Chained}
use Rattle.payers.specs.Turns.{held_key, seen}
use Rattle.payers.proofs.Sought.{held-inside}
use Rattle.payers.proofs.seeking.seen.Goals as goal

pub invariant_of-payers : goal.invariant_of-payers
invariant_of-payers c = rw c.held_in.ensures (record { inside = held-inside c.args.place c.args.room.now c.requires.held-room })

pub invariant_of-payers-2 : goal.invariant_of-payers-2
unfolding held_key
invariant_of-payers-2 c =
    let a = c.args in
    let chained : Chained (held_key a.room.now) c.held_in.result a.links.now = rw c.held_in.ensures c.requires.chained in
    record { chained = chained }

pub returns : goal.returns
unfolding seen held_key
returns c = rw (some-from _, ← c.held_in.ensures, ← c.last.ensures) c.is_some.ensures
