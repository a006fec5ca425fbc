-- The record stands behind the header, and is judged against it.
use Rattle.kinds.specs.Kinds.{fixed_of}
use Rattle.builder.proofs.Lengths.{data-length}
use Rattle.builder.proofs.Sizes.{size-most}
use Rattle.builder.specs.Records.{data_built}
use Rattle.writer.proofs.Frame.{frame-count, put-behind}
use Rattle.writer.specs.Writing.{data_told}
use mathlib.Core.List.{List}
use mathlib.Core.Path.{sym, ◌∙◌}
use native.Mathlib.Nat.{one-mul, le_of_eq}
use native.Mathlib.Omega.{arith}
use Prim.Native.Nat.{ℕ, ◌≤◌}
use lib.ListN.{length}
use Rattle.writer.proofs.deciding.record_tells.Goals as goal

pub judge_at-requires : goal.judge_at-requires
judge_at-requires c = omega (arith, frame-count c.args.kind c.put_record.new.file (omega (arith, c.put_record.auto.file)))

pub returns : goal.returns
unfolding data_told
returns c =
    let a = c.args in
    let k = a.kind in
    let built = λ (h : List ℕ). data_built k h a.bodies.now a.i in
    let inside : c.size_of.result ≤ length a.frame.now = rw c.size_of.ensures (omega (arith, size-most k)) in
    let put =
    put-behind k a.frame.now _ built 1 _ c.put_record.ensures (c.size_of.ensures ∙ sym (one-mul (fixed_of k).size)) (le_of_eq (sym c.size_of.ensures)) inside
    (λ h. data-length k h a.bodies.now a.i) in
    record {
      value = rw (put.0, put.1) at c.judge_at.ensures;
      frame_unchanged = put.0;
      frame_after = put.1;
    }
