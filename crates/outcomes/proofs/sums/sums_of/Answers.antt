-- Three sums so far.
use Rattle.std.proofs.Common.{rules, sym, ◌∙◌}
use native.Mathlib.Nat.{le_antisymm}
use native.Mathlib.Omega.{arith}
use Rattle.laws.proofs.Sums.{sum-start, sum_more}
use Rattle.matching.proofs.Found.{left-of, results-length}
use Rattle.matching.specs.Amounts.{taken_at}
use Rattle.outcomes.specs.Sums.{sums_of}
use Rattle.outcomes.proofs.sums.sums_of.Goals as goal

pub loop-i-init : goal.loop-i-init
loop-i-init c = (sym (sum-start _), sym (sum-start _), sym (sum-start _), search rules, search rules, search rules)

pub bounds-results-i : goal.bounds-results-i
bounds-results-i c =
    let less = rw (c.data_count-i-end.ensures, c.request_kind.ensures) at c.loop-i-test.true in
    rw (c.requires.results_value, results-length c.args.pair c.args.request.now c.args.res.now) (omega (arith, c.requires.request_bound, less))

pub loop-i-preserved : goal.loop-i-preserved
unfolding taken_at
loop-i-preserved c =
    let l = c.loop-i in
    let a = c.args in
    let less = rw (c.data_count-i-end.ensures, c.request_kind.ensures) at c.loop-i-test.true in
    let left = (rw c.requires.results_value at c.not_taken_by-left.ensures.value) ∙ left-of a.pair a.request.now a.res.now (omega (arith, c.requires.request_bound)) l.i less in (
      rw (l.invariant.0, c.asked_at-asked.ensures.value) (sym (sum_more _ l.i)),
      rw (l.invariant.1, c.rest.ensures, c.asked_at-asked.ensures.value, left) (sym (sum_more _ l.i)),
      rw (l.invariant.2, left) (sym (sum_more _ l.i)),
      omega (arith, l.invariant.3, c.asked_at-asked.ensures.upper_bound),
      omega (arith, l.invariant.4, c.asked_at-asked.ensures.upper_bound, c.rest.ensures),
      omega (arith, l.invariant.5, c.not_taken_by-left.ensures.upper_bound),
    )

pub returns : goal.returns
unfolding sums_of
returns c =
    let l = c.loop-i in
    rw (← c.request_kind.ensures, ← c.data_count-i-end.ensures, le_antisymm c.loop-i-test.false l.auto.i-end, ← l.invariant.0, ← l.invariant.1, ← l.invariant.2)
