-- The payers are sought; each turn has less of the board before it.
use Rattle.std.proofs.Common.{length}
use Rattle.payers.specs.Members.{payer_on}
use Rattle.board.proofs.Sought.{Seeks}
use Rattle.board.proofs.Passes.{weight}
use Rattle.board.proofs.passing.seek.Given as goal

abbrev pub invariant-loop-place : goal.invariant-loop-place
invariant-loop-place l = Seeks (payer_on l.board) (length l.board) l.place l.links l.room

abbrev pub decreases-loop-place : goal.decreases-loop-place
decreases-loop-place l = weight (length l.board) l.place
