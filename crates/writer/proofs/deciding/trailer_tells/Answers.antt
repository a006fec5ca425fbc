-- The trailer stands behind, and is judged against the header; then its totals.
use Rattle.std.specs.Prelude.{Err}
use Rattle.answers.proofs.Tellings.{first, next}
use Rattle.builder.proofs.Lengths.{trailer-length}
use Rattle.builder.proofs.Sizes.{size-most}
use Rattle.builder.specs.Records.{trailer_built}
use Rattle.writer.proofs.Frame.{frame-count, put-behind}
use Rattle.writer.specs.Writing.{trailer_told}
use borrow.Author.Rules.{rules}
use mathlib.Core.List.{List}
use mathlib.Core.Path.{◌≡◌, ap}
use native.Mathlib.Omega.{arith}
use Prim.Native.Nat.{ℕ, ◌*◌, ◌≤◌}
use lib.ListN.{length}
use Rattle.writer.proofs.deciding.trailer_tells.Goals as goal

pub judge_at-requires : goal.judge_at-requires
judge_at-requires c = frame-count c.args.kind c.put_trailer.new.file (omega (arith, c.put_trailer.auto.file))

pub returns-in_err-judge_at : goal.returns-in_err-judge_at
unfolding trailer_told
returns-in_err-judge_at c =
    let a = c.args in
    let k = a.kind in
    let built = λ (h : List ℕ). trailer_built k h a.sums in
    let inside : 2 * c.size_of.result ≤ length a.frame.now = rw c.size_of.ensures (omega (arith, size-most k)) in
    let put =
    put-behind k a.frame.now _ built 2 _ c.put_trailer.ensures (ap (λ (w : ℕ). 2 * w) c.size_of.ensures) (rw c.size_of.ensures (omega arith)) inside
    (λ h. trailer-length k h a.sums) in
    let e : c.from_residual.result ≡ Err c.in_err-judge_at.field-0.0 = search rules in
    rw e (first _ _ _ (rw (put.0, put.1) at c.in_err-judge_at.ensures))

pub record_of-requires : goal.record_of-requires
record_of-requires c = frame-count c.args.kind c.put_trailer.new.file (omega (arith, c.put_trailer.auto.file))

pub returns : goal.returns
unfolding trailer_told
returns c =
    let a = c.args in
    let k = a.kind in
    let built = λ (h : List ℕ). trailer_built k h a.sums in
    let inside : 2 * c.size_of.result ≤ length a.frame.now = rw c.size_of.ensures (omega (arith, size-most k)) in
    let put =
    put-behind k a.frame.now _ built 2 _ c.put_trailer.ensures (ap (λ (w : ℕ). 2 * w) c.size_of.ensures) (rw c.size_of.ensures (omega arith)) inside
    (λ h. trailer-length k h a.sums) in
    next _ _ _ (rw (put.0, put.1) at c.in_ok-judge_at.ensures) (rw (c.record_of.ensures.result_value, put.1) at c.sums_tell.ensures)
