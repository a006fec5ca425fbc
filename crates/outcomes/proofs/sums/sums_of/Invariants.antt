-- Three sums so far.
use Rattle.std.specs.Prelude.{◌≡◌, ◌≤◌, ◌*◌, ◌^◌}
use Rattle.laws.specs.Sum.{sum}
use Rattle.matching.specs.Amounts.{asked_at, taken_at, not_taken_at}
use Rattle.outcomes.proofs.sums.sums_of.Given as goal

abbrev pub invariant-loop-i : goal.invariant-loop-i
invariant-loop-i l =
    (l.sums.asked ≡ sum (asked_at l.pair l.request) l.i) × (l.sums.taken ≡ sum (taken_at l.pair l.request l.res) l.i) ×
    (l.sums.not_taken ≡ sum (not_taken_at l.pair l.request l.res) l.i) ×
    (l.sums.asked ≤ l.i * 10 ^ 13) × (l.sums.taken ≤ l.i * 10 ^ 13) × (l.sums.not_taken ≤ l.i * 10 ^ 13)
