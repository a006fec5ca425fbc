-- The loop goes from record to record until the last block, the limit or the first that is refused.
use Prim.Native.Nat.{◌+◌}
use borrow.Author.Rules.{rules}
use lib.ListN.{length-set}
use mathlib.Core.Path.{◌≡◌, refl}
use native.Mathlib.Omega.{arith}
use Rattle.laws.proofs.Tabs.{fill_start, fill_more}
use Rattle.kinds.specs.Kinds.{limit}
use Rattle.evidence.specs.Blocks.{next_of}
use Rattle.evidence.specs.Judged.{good_to, byte_of}
use Rattle.evidence.proofs.Told.{block-fits, walk-first, walk-stops, walk-past, walk-more, walk-ends}
use Rattle.answers.proofs.Tellings.{good}
use Rattle.evidence.proofs.judged.records_tell.Goals as goal

pub loop-i-init : goal.loop-i-init
loop-i-init c = (walk-first _ _ c.requires.bound, rw c.count-last.ensures, refl, fill_start (byte_of _) _)

pub returns-then-last-b : goal.returns-then-last-b
returns-then-last-b c =
    let l = c.loop-i in
    let told = walk-ends _ _ l.i l.b l.invariant.0 (omega (arith, c.loop-i-test.true)) (omega (arith, c.if-last-b.true, l.invariant.1)) in
    record {
      value = rw (told.1, ← told.0) refl;
      places_after = rw told.1 l.invariant.3;
    }

pub returns-in-Err : goal.returns-in-Err
returns-in-Err c =
    let l = c.loop-i in
    let told = walk-stops _ _ l.i l.b l.invariant.0 c.loop-i-test.true (omega (arith, c.if-last-b.false, l.invariant.1)) c.in-Err.refusal c.in-Err.ensures in
    record {
      value = rw (told.1, ← told.0) refl;
      places_after = rw told.1 l.invariant.3;
    }

pub overflow_add-b : goal.overflow_add-b
unfolding next_of
overflow_add-b c =
    let l = c.loop-i in
    let next = block-fits _ _ l.b (l.i + 1) (good _ c.in_default.ensures) in
    rw (c.blocks_for-b.ensures, c.length.ensures.value) (omega (arith, next, c.requires.file_bound))

pub loop-i-preserved : goal.loop-i-preserved
unfolding next_of byte_of
loop-i-preserved c =
    let l = c.loop-i in
    let inv = l.invariant in
    let more = walk-more _ _ l.i l.b inv.0 c.loop-i-test.true (omega (arith, c.if-last-b.false, inv.1)) c.in_default.ensures in (
      rw (c.blocks_for-b.ensures, c.length.ensures.value) more,
      inv.1,
      simp length-set inv.2,
      rw inv.3 (fill_more (byte_of c.args.file.now) c.args.places.now l.i _ (omega (arith, c.requires.places_len, c.loop-i-test.true)) (rw inv.0.here)),
    )

pub returns-then-b-last : goal.returns-then-b-last
returns-then-b-last c =
    let l = c.loop-i in
    let told = walk-past _ _ l.i l.b l.invariant.0 (omega (arith, c.loop-i-test.false, l.auto.i-end)) (omega (arith, c.if-b-last.true, l.invariant.1)) in
    record {
      value = rw (told.1, ← told.0) (search rules);
      places_after = rw told.1 l.invariant.3;
    }

pub returns : goal.returns
returns c =
    let l = c.loop-i in
    let told = walk-ends _ _ l.i l.b l.invariant.0 (omega (arith, l.auto.i-end)) (omega (arith, c.if-b-last.false, l.invariant.1)) in
    let all : good_to c.args.exempt c.args.file.now ≡ limit = omega (arith, told.1, c.loop-i-test.false, l.auto.i-end) in
    record {
      value = rw (all, ← told.0) refl;
      places_after = rw told.1 l.invariant.3;
    }
