-- What all requests are marked with is what those below `at` are, over what is marked so far.
use Rattle.keys.specs.Keys.{counted}
use Rattle.payers.specs.Turns.{dues_key, marks_with}
use Rattle.payers.proofs.Paid.{Own}
use lib.ListN.{length}
use mathlib.Core.Path.{◌≡◌}
use Rattle.payers.proofs.paying.Requests.mark_with.Given as goal

abbrev pub invariant-loop-at : goal.invariant-loop-at
invariant-loop-at l =
    let key = dues_key l.self.request.now in
    (length l.marks ≡ length l.initial.marks) × Own key l.payer l.self.n (counted l.at) ×
    (marks_with key l.self.n l.payer l.number l.initial.marks ≡ marks_with key (counted l.at) l.payer l.number l.marks)

abbrev pub decreases-loop-at : goal.decreases-loop-at
decreases-loop-at l = counted l.at
