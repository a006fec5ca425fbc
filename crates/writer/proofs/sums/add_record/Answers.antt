-- One sum after the other.
use Rattle.laws.proofs.Tabs.{fill_start, fill_more, fill-past}
use Rattle.records.specs.Quantities.{worth_at}
use Rattle.records.specs.Records.{record_of}
use Rattle.tables.proofs.Counts.{totals-few}
use Rattle.tables.specs.Totals.{totals_of, most_totals}
use Rattle.writer.proofs.Summed.{filled-rest}
use Rattle.writer.specs.Writing.{sum_with, worth_for}
use borrow.Author.Tests.{lt-ltb, le-ltb}
use lib.ListN.{length, get_or, set}
use mathlib.Core.Path.{◌≡◌, ◌∙◌, ap}
use native.Mathlib.Nat.{le_refl}
use native.Mathlib.Omega.{arith}
use Prim.Native.Nat.{◌+◌, ◌<◌}
use Rattle.writer.proofs.sums.add_record.Goals as goal

pub loop-t-init : goal.loop-t-init
loop-t-init c = fill_start (sum_with c.args.kind (record_of c.args.kind c.args.frame.now 1) c.args.sums.now) c.args.sums.now

pub bounds-sums-t : goal.bounds-sums-t
bounds-sums-t c = let long = ap length c.totals_of-total-items.ensures in omega (arith, totals-few c.args.kind)

pub overflow_add-sums : goal.overflow_add-sums
overflow_add-sums c =
    let a = c.args in
    let l = c.loop-t in
    let few : l.t < most_totals = let long = ap length c.totals_of-total-items.ensures in omega (arith, totals-few a.kind) in
    let same : get_or l.sums l.t 0 ≡ get_or a.sums.now l.t 0 =
    rw l.invariant (fill-past (sum_with a.kind (record_of a.kind a.frame.now 1) a.sums.now) a.sums.now l.t l.t (le_refl l.t)) in
    record { fits = omega (arith, same, c.requires.by_index l.t few, c.worth_at.ensures.upper_bound) }

pub bounds-sums-t-in-loop-t : goal.bounds-sums-t-in-loop-t
bounds-sums-t-in-loop-t c = let long = ap length c.totals_of-total-items.ensures in omega (arith, totals-few c.args.kind)

pub loop-t-preserved : goal.loop-t-preserved
unfolding sum_with worth_for worth_at
loop-t-preserved c =
    let a = c.args in
    let l = c.loop-t in
    let table = c.totals_of-total-items.ensures in
    let below = rw table at c.loop-t-test.true in
    let f = sum_with a.kind (record_of a.kind a.frame.now 1) a.sums.now in
    let same : get_or l.sums l.t 0 ≡ get_or a.sums.now l.t 0 = rw l.invariant (fill-past f a.sums.now l.t l.t (le_refl l.t)) in
    let more : get_or l.sums l.t 0 + c.worth_at.result ≡ f l.t =
    rw (same, lt-ltb l.t (length (totals_of a.kind)) below, ← table) (ap (λ w. get_or a.sums.now l.t 0 + w) c.worth_at.ensures.value) in
    ap (λ s. set s l.t (get_or l.sums l.t 0 + c.worth_at.result)) l.invariant ∙ fill_more f a.sums.now l.t _ (omega (arith, totals-few a.kind, below)) more

pub returns : goal.returns
unfolding sum_with worth_for
returns c =
    let a = c.args in
    let l = c.loop-t in
    let table = c.totals_of-total-items.ensures in
    let f = sum_with a.kind (record_of a.kind a.frame.now 1) a.sums.now in
    let all = rw table at c.loop-t-test.false in
    rw (l.invariant, ← c.told-sums)
    (filled-rest f a.sums.now l.t (omega (arith, totals-few a.kind, l.auto.t-end, ap length table))
    (λ i h. rw (le-ltb i (length (totals_of a.kind)) (omega (arith, all, h))) (omega arith)))
