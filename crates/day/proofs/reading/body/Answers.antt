-- A body lies behind the contents and the lengths before it.
use Rattle.std.specs.Prelude.{Err}
use Prim.Native.Nat.{◌-◌, ◌≤◌}
use mathlib.Core.Path.{◌≡◌, sym, ◌∙◌}
use borrow.Author.Rules.{rules}
use native.Mathlib.Nat.{le_trans}
use native.Mathlib.Omega.{arith}
use Rattle.answers.proofs.Lies.{one-true}
use Rattle.day.proofs.Contained.{size_room, size_in, taken-at, taken-long, taken-short}
use Rattle.day.proofs.Told.{start-by, shown-refused, shown-from, shown-nowhere}
use Rattle.day.proofs.reading.body.Goals as goal

pub returns-in_err-contents : goal.returns-in_err-contents
returns-in_err-contents c =
    let e : c.from_residual.result ≡ Err c.in_err-contents.field-0.0 = search rules in
    rw e (shown-refused _ _ _ c.in_err-contents.ensures.told)

pub returns-then-not-is_one : goal.returns-then-not-is_one
returns-then-not-is_one c =
    let w = c.in_ok-contents in
    let count = rw w.ensures.of at w.contents.by_count in
    shown-nowhere _ _ w.ensures.told (rw (← count) (sym c.is_one.ensures ∙ c.if-not-is_one.true))

pub overflow_sub-i : goal.overflow_sub-i
overflow_sub-i c = (one-true _ _ (sym c.is_one.ensures ∙ c.if-not-is_one.false)).0

pub slice_bounds-lengths-end : goal.slice_bounds-lengths-end
slice_bounds-lengths-end c =
    let w = c.in_ok-contents.contents in
    let one = one-true _ _ (sym c.is_one.ensures ∙ c.if-not-is_one.false) in
    rw c.lengths-lengths.ensures (le_trans (omega (arith, one.1)) (size_room w.file.now w.n w.few))

pub slice_bounds-total-end : goal.slice_bounds-total-end
slice_bounds-total-end c =
    let w = c.in_ok-contents.contents in
    let one = one-true _ _ (sym c.is_one.ensures ∙ c.if-not-is_one.false) in
    let h : c.args.number - 1 ≤ w.n = omega (arith, one.1) in
    rw (c.lengths-lengths.ensures, taken-long w.file.now w.n (c.args.number - 1) h w.few)

pub total-requires : goal.total-requires
total-requires c =
    let w = c.in_ok-contents.contents in
    let one = one-true _ _ (sym c.is_one.ensures ∙ c.if-not-is_one.false) in
    let h : c.args.number - 1 ≤ w.n = omega (arith, one.1) in
    let whole = rw w.by_form at w.whole in
    rw (c.lengths-lengths.ensures, taken-long w.file.now w.n (c.args.number - 1) h w.few) (record {
      few = omega (arith, h, w.few);
      short = taken-short w.file.now w.n (c.args.number - 1) h whole;
    })

pub offset_bounds-lengths-i : goal.offset_bounds-lengths-i
offset_bounds-lengths-i c =
    let w = c.in_ok-contents.contents in
    omega (arith, (one-true _ _ (sym c.is_one.ensures ∙ c.if-not-is_one.false)).1, w.few)

pub bounds-lengths-i : goal.bounds-lengths-i
bounds-lengths-i c =
    let w = c.in_ok-contents.contents in
    let one = one-true _ _ (sym c.is_one.ensures ∙ c.if-not-is_one.false) in
    omega (arith, one.0, one.1, w.few)

pub returns : goal.returns
returns c =
    let w = c.in_ok-contents in
    let s = c.args.file.now in
    let n = w.contents.n in
    let m = c.args.number - 1 in
    let file = w.ensures.of in
    let count = rw file at w.contents.by_count in
    let is = sym c.is_one.ensures ∙ c.if-not-is_one.false in
    let one = one-true _ _ is in
    let h : m ≤ n = omega (arith, one.1) in
    let lengths = rw file at c.lengths-lengths.ensures in
    let total = rw (lengths, taken-long s n m h w.contents.few) at c.total.ensures.value in
    shown-from s c.args.number w.ensures.told _ _ (rw (← count) is)
    (start-by s w.contents.width n m _ _ _ (rw file at w.contents.by_form) count c.end.ensures.value total (taken-at s n m h))
    (rw lengths (size_in s n m (omega (arith, one.0, one.1))))
