-- One member more is settled: `Settled.antt`.
use Rattle.std.proofs.Common.{rules}
use Rattle.payers.specs.Payers.{members_after}
use Rattle.payers.specs.Turns.{settled_by}
use Rattle.board.proofs.Settled.{turned_more, turned-end}
use Rattle.board.proofs.passing.settle.Goals as goal

pub loop-member-preserved : goal.loop-member-preserved
unfolding settled_by
loop-member-preserved c =
    let l = c.loop-member in
    rw c.settle.ensures (turned_more _ _ _ l.member-index l.board (search rules) l.invariant)

pub returns : goal.returns
unfolding members_after
returns c =
    let l = c.loop-member in
    turned-end _ _ _ l.member-index l.board (search rules) l.invariant
