-- The loop goes from unit to unit until nothing is left, the limit or the first that is refused.
use Rattle.std.specs.Prelude.{Err}
use borrow.Author.Rules.{rules}
use lib.ListN.{length-set}
use mathlib.Core.Path.{◌≡◌, refl, sym}
use native.Mathlib.Omega.{arith}
use Rattle.laws.proofs.Tabs.{fill_start, fill_more}
use Rattle.evidence_builder.specs.Units.{place_of}
use Rattle.evidence_writer.proofs.Units.{place-blocks}
use Rattle.evidence_writer.proofs.Told.{walk-first, walk-stops, walk-past, walk-fits, walk-more, walk-ends}
use Rattle.evidence_writer.proofs.units_tell.units_tell.Goals as goal

pub loop-i-init : goal.loop-i-init
loop-i-init c = (walk-first _ _ _ _, refl, fill_start (place_of _) _)

pub returns-then-x-p : goal.returns-then-x-p
returns-then-x-p c =
    let l = c.loop-i in
    let w = l.invariant.0 in
    let told = walk-ends _ _ _ _ l.i l.p l.b w (omega (arith, c.loop-i-test.true)) c.if-x-p.true in
    record {
      answer_value = told.0;
      count_value = sym told.1;
      blocks_value = rw told.1 w.taken;
      places_after = rw told.1 l.invariant.2;
    }

pub returns-in_err-unit_tells-clause-answer_value : goal.returns-in_err-unit_tells-clause-answer_value
returns-in_err-unit_tells-clause-answer_value c =
    let l = c.loop-i in
    let r = c.in_err-unit_tells.field-0.0 in
    let e : c.from_residual.result ≡ Err r = search rules in
    rw e (walk-stops _ _ _ _ l.i l.p l.b l.invariant.0 c.loop-i-test.true c.if-x-p.false r c.in_err-unit_tells.ensures).0

pub returns-in_err-unit_tells-clause-places_after : goal.returns-in_err-unit_tells-clause-places_after
returns-in_err-unit_tells-clause-places_after c =
    let l = c.loop-i in
    rw (walk-stops _ _ _ _ l.i l.p l.b l.invariant.0 c.loop-i-test.true c.if-x-p.false _ c.in_err-unit_tells.ensures).1 l.invariant.2

pub said-said-requires : goal.said-said-requires
said-said-requires c =
    let l = c.loop-i in
    omega (arith, (walk-fits _ _ _ _ l.i l.p l.b l.invariant.0 c.in_ok-unit_tells.ensures).inside)

pub overflow_cast-places : goal.overflow_cast-places
overflow_cast-places c =
    let l = c.loop-i in
    let w = l.invariant.0 in
    omega (arith, place-blocks c.args.x.now l.i, w.most, w.here, w.taken)

pub overflow_add-b : goal.overflow_add-b
overflow_add-b c =
    let l = c.loop-i in
    rw (c.blocks_for-b.ensures, c.said-said.ensures.value) (omega (arith, (walk-fits _ _ _ _ l.i l.p l.b l.invariant.0 c.in_ok-unit_tells.ensures).most))

pub loop-i-preserved : goal.loop-i-preserved
loop-i-preserved c =
    let l = c.loop-i in
    let w = l.invariant.0 in
    let more = walk-more _ _ _ _ l.i l.p l.b w c.loop-i-test.true c.if-x-p.false c.in_ok-unit_tells.ensures in (
      rw (c.blocks_for-b.ensures, c.said-said.ensures.value) more,
      simp length-set l.invariant.1,
      rw l.invariant.2 (fill_more (place_of c.args.x.now) c.args.places.now l.i _ (omega (arith, c.requires, c.loop-i-test.true)) w.here),
    )

pub returns-then-p-x : goal.returns-then-p-x
returns-then-p-x c =
    let l = c.loop-i in
    let told = walk-past _ _ _ _ l.i l.p l.b l.invariant.0 (omega (arith, c.loop-i-test.false, l.auto.i-end)) c.if-p-x.true in
    record {
      answer_value = told.0;
      count_value = search rules;
      blocks_value = search rules;
      places_after = rw told.1 l.invariant.2;
    }

pub returns : goal.returns
returns c =
    let l = c.loop-i in
    let w = l.invariant.0 in
    let told = walk-ends _ _ _ _ l.i l.p l.b w (omega (arith, l.auto.i-end)) c.if-p-x.false in
    record {
      answer_value = told.0;
      count_value = omega (arith, told.1, c.loop-i-test.false, l.auto.i-end);
      blocks_value = rw told.1 w.taken;
      places_after = rw told.1 l.invariant.2;
    }
