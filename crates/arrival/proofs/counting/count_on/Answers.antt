-- Below the turn the sum; from there on what it has over whole cycles.
use Prim.Native.Nat.{◌+◌, ◌≤◌}
use mathlib.Core.Path.{sym, ◌∙◌, ap}
use native.Mathlib.Nat.{add-mod}
use native.Mathlib.Omega.{arith}
use Rattle.arrival.specs.Counting.{turn, cycle}
use Rattle.arrival.proofs.Counted.{counted-low, counted-high}
use Rattle.arrival.proofs.counting.count_on.Goals as goal
use Rattle.arrival.proofs.counting.count_on.Goals.{else-n-lt-TURN-via-then-n-lt-TURN+else-more-n, else-n-lt-TURN-via-else-n-lt-TURN}

pub returns-then-more-n : goal.returns-then-more-n
returns-then-more-n c = sym (counted-low _ (omega arith))

pub returns : goal.returns
returns c =
    sym (counted-high _ past ∙ ap (λ x. turn + x) (add-mod c.args.n c.args.more cycle))
  where
    past : turn ≤ c.args.n + c.args.more
    past = elim c.else-n-lt-TURN.branch [ else-n-lt-TURN-via-then-n-lt-TURN+else-more-n w ↦ omega arith | else-n-lt-TURN-via-else-n-lt-TURN w ↦ omega arith ]
