-- So many members are settled, the others are as they were.
use Rattle.payers.specs.Members.{nobody}
use Rattle.payers.specs.Payers.{member_after}
use Rattle.payers.specs.Turns.{dues_key, listed}
use Rattle.board.proofs.Settled.{Turned}
use Rattle.board.proofs.passing.settle.Given as goal

abbrev pub invariant-loop-member : goal.invariant-loop-member
invariant-loop-member l = Turned (member_after (dues_key l.requests.request.now) (listed l.requests.taken.now) l.requests.n) nobody l.initial.board l.member-index l.board
