-- Each mark is that of the last of so many members that has the request's payer.
use Rattle.std.proofs.Common.{ℕ, ◌<◌, ◌≡◌, get_or}
use Rattle.payers.specs.Turns.{dues_key, listed}
use Rattle.payers.proofs.Marked.{mark_at}
use Rattle.board.proofs.passing.mark.Given as goal

abbrev pub invariant-loop-member : goal.invariant-loop-member
invariant-loop-member l =
    (i : ℕ) → i < l.requests.n → get_or l.marks i 0 ≡ mark_at l.board (dues_key l.requests.request.now) (listed l.requests.taken.now) l.requests.n (get_or l.initial.marks i 0) l.member-index i
