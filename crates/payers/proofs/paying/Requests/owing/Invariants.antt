-- What all requests give is what those from `at` on gave, and the rest.
use Prim.Native.Nat.{◌+◌}
use Rattle.laws.specs.Sum.{sum}
use Rattle.keys.specs.Keys.{counted}
use Rattle.payers.specs.Payers.{won_from, taken_from}
use Rattle.payers.specs.Turns.{dues_key, listed}
use Rattle.payers.proofs.Paid.{Own}
use mathlib.Core.Path.{◌≡◌}
use Rattle.payers.proofs.paying.Requests.owing.Given as goal

abbrev pub invariant-loop-at : goal.invariant-loop-at
invariant-loop-at l =
    let key = dues_key l.self.request.now in
    let won = listed l.self.taken.now in
    Own key l.payer l.self.n (counted l.at) × (taken_from key won l.self.n l.payer ≡ l.won + sum (won_from key won l.payer) (counted l.at))

abbrev pub decreases-loop-at : goal.decreases-loop-at
decreases-loop-at l = counted l.at
