-- What was not taken is asked of one request after the other, until it differs.
use Rattle.std.proofs.Common.{sym, ◌∙◌}
use native.Mathlib.Nat.{le_antisymm}
use native.Mathlib.Omega.{arith}
use Rattle.laws.proofs.Leasts.{least_start, least_more}
use Rattle.two_results.proofs.Firsts.{lengths-of, left_at, other-false, other-here, other_none}
use Rattle.two_results.proofs.comparing.first_other.Goals as goal

pub results_for-by_first-requires : goal.results_for-by_first-requires
results_for-by_first-requires c =
    let l = lengths-of _ _ c.requires.both_read.request in
    let m = lengths-of _ _ c.requires.both_read.result in
    record {
      bound = l.fewest;
      bound_2 = m.fewest;
      res_bound = m.most;
    }

pub results_for-by_second-requires : goal.results_for-by_second-requires
results_for-by_second-requires c =
    let l = lengths-of _ _ c.requires.both_read.request in
    let m = lengths-of _ _ c.requires.both_read_2.result in
    record {
      bound = l.fewest;
      bound_2 = m.fewest;
      res_bound = m.most;
    }

pub loop-i-init : goal.loop-i-init
loop-i-init c = least_start _

pub offset_bounds-by_first-i : goal.offset_bounds-by_first-i
offset_bounds-by_first-i c =
    let less = rw (c.data_count-i-end.ensures, c.request_kind.ensures) at c.loop-i-test.true in
    omega (arith, less, (lengths-of _ _ c.requires.both_read.request).most)

pub bounds-by_first-i : goal.bounds-by_first-i
bounds-by_first-i c =
    let less = rw (c.data_count-i-end.ensures, c.request_kind.ensures) at c.loop-i-test.true in
    omega (arith, less, (lengths-of _ _ c.requires.both_read.request).most)

pub offset_bounds-by_second-i : goal.offset_bounds-by_second-i
offset_bounds-by_second-i c =
    let less = rw (c.data_count-i-end.ensures, c.request_kind.ensures) at c.loop-i-test.true in
    omega (arith, less, (lengths-of _ _ c.requires.both_read.request).most)

pub bounds-by_second-i : goal.bounds-by_second-i
bounds-by_second-i c =
    let less = rw (c.data_count-i-end.ensures, c.request_kind.ensures) at c.loop-i-test.true in
    omega (arith, less, (lengths-of _ _ c.requires.both_read.request).most)

pub overflow_cast-result : goal.overflow_cast-result
overflow_cast-result c =
    let less = rw (c.data_count-i-end.ensures, c.request_kind.ensures) at c.loop-i-test.true in
    omega (arith, less, (lengths-of _ _ c.requires.both_read.request).most)

pub returns-then-left-not_taken_by : goal.returns-then-left-not_taken_by
returns-then-left-not_taken_by c =
    let i = c.loop-i.i in
    let a = c.args in
    let less = rw (c.data_count-i-end.ensures, c.request_kind.ensures) at c.loop-i-test.true in
    let one = left_at a.pair a.request.now a.first.now c.requires.both_read.request _ c.results_for-by_first.ensures i less _ c.not_taken_by-left.ensures.value in
    let two = left_at a.pair a.request.now a.second.now c.requires.both_read.request _ c.results_for-by_second.ensures i less _ c.not_taken_by.ensures.value in
    other-here a.pair a.request.now a.first.now a.second.now i less c.loop-i.invariant (λ e. c.if-left-not_taken_by.true (one ∙ (e ∙ sym two)))

pub loop-i-preserved : goal.loop-i-preserved
loop-i-preserved c =
    let i = c.loop-i.i in
    let a = c.args in
    let less = rw (c.data_count-i-end.ensures, c.request_kind.ensures) at c.loop-i-test.true in
    let one = left_at a.pair a.request.now a.first.now c.requires.both_read.request _ c.results_for-by_first.ensures i less _ c.not_taken_by-left.ensures.value in
    let two = left_at a.pair a.request.now a.second.now c.requires.both_read.request _ c.results_for-by_second.ensures i less _ c.not_taken_by.ensures.value in
    least_more _ i c.loop-i.invariant (other-false a.pair a.request.now a.first.now a.second.now i (sym one ∙ (c.if-left-not_taken_by.false ∙ two)))

pub returns : goal.returns
returns c =
    let l = c.loop-i in
    let a = c.args in
    other_none a.pair a.request.now a.first.now a.second.now (rw (← c.request_kind.ensures, ← c.data_count-i-end.ensures, le_antisymm c.loop-i-test.false l.auto.i-end) l.invariant)
