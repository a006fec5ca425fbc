-- What was not taken is asked of one request after the other, until it differs.
use Rattle.std.specs.Prelude.{◌≡◌}
use Rattle.laws.specs.Least.{least}
use Rattle.two_results.specs.Comparing.{other_at}
use Rattle.two_results.proofs.comparing.first_other.Given as goal

abbrev pub invariant-loop-i : goal.invariant-loop-i
invariant-loop-i l = least (other_at l.pair l.request l.first l.second) l.i ≡ l.i
