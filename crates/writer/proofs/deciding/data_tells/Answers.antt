-- The loop looks for the first record that breaks a row, and sums up those before it.
use Rattle.std.specs.Prelude.{Err}
use Rattle.answers.proofs.Tellings.{loop-start, loop-stop, loop-more, loop-end}
use Rattle.records.specs.Records.{record_of}
use Rattle.writer.proofs.Frame.{frame-count}
use Rattle.writer.proofs.Summed.{sums-start, sums-more, sums-small}
use borrow.Author.Rules.{rules}
use mathlib.Core.Path.{◌≡◌, refl, ◌∙◌}
use native.Mathlib.Nat.{le_antisymm}
use native.Mathlib.Omega.{arith}
use Rattle.writer.proofs.deciding.data_tells.Goals as goal

pub loop-i-init : goal.loop-i-init
loop-i-init c =
    record {
      long = c.told-frame;
      still = refl;
      so_far = loop-start _;
      summed = sums-start _ _ _;
    }

pub returns-in_err-record_tells : goal.returns-in_err-record_tells
returns-in_err-record_tells c =
    let l = c.loop-i in
    let e : c.from_residual.result ≡ Err c.in_err-record_tells.field-0.0 = search rules in
    rw e (record {
      answer_value = loop-stop _ _ l.i _ c.loop-i-test.true l.invariant.so_far (rw l.invariant.still at c.in_err-record_tells.ensures.value);
      sums_value = tt;
      frame_unchanged = c.in_err-record_tells.ensures.frame_unchanged ∙ l.invariant.still;
    })

pub add_record-requires : goal.add_record-requires
add_record-requires c =
    let l = c.loop-i in
    let a = c.args in
    record {
      bound = frame-count a.kind c.record_tells.new.frame (omega arith);
      by_index = λ t h. rw l.invariant.summed (sums-small a.kind (record_of a.kind a.frame.now 0) a.bodies.now l.i (omega arith) t h);
    }

pub loop-i-preserved : goal.loop-i-preserved
loop-i-preserved c =
    let l = c.loop-i in
    let a = c.args in
    let told = c.in_ok-record_tells.ensures in
    record {
      long = omega arith;
      still = told.frame_unchanged ∙ l.invariant.still;
      so_far = loop-more _ l.i l.invariant.so_far (rw l.invariant.still at told.value);
      summed =
          c.add_record.ensures ∙
          rw (told.frame_after, l.invariant.still, l.invariant.summed) (sums-more a.kind (record_of a.kind a.frame.now 0) a.bodies.now l.i);
    }

pub returns : goal.returns
returns c =
    let l = c.loop-i in
    let e = le_antisymm c.loop-i-test.false l.auto.i-end in
    record {
      answer_value = loop-end _ l.i _ c.loop-i-test.false l.auto.i-end l.invariant.so_far;
      sums_value = rw (← e) at l.invariant.summed;
      frame_unchanged = l.invariant.still;
    }
