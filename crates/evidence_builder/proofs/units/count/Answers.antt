-- From unit to unit, while bytes are left.
use Rattle.laws.proofs.Leasts.{least_start}
use Rattle.evidence_builder.specs.Units.{done_at}
use Rattle.evidence_builder.proofs.Walked.{left-first, left-more, way-more, way_end, way-past}
use mathlib.Core.Path.{sym, ◌∙◌}
use native.Mathlib.Nat.{le_antisymm}
use native.Mathlib.Omega.{arith}
use Rattle.evidence_builder.proofs.units.count.Goals as goal

pub loop-i-init : goal.loop-i-init
loop-i-init c = let x = c.args.x.now in (left-first x, least_start (done_at x))

pub returns-then-left-eq0 : goal.returns-then-left-eq0
returns-then-left-eq0 c =
    let l = c.loop-i in
    way_end c.args.x.now l.i l.left l.invariant.0 l.invariant.1 (omega arith) c.if-left-eq0.true

pub loop-i-preserved : goal.loop-i-preserved
loop-i-preserved c =
    let l = c.loop-i in
    let x = c.args.x.now in
    let some = c.if-left-eq0.false in (
      c.left_behind-left.ensures ∙ left-more x l.i l.left l.invariant.0 some,
      way-more x l.i l.left l.invariant.0 l.invariant.1 some,
    )

pub returns : goal.returns
returns c =
    let l = c.loop-i in
    sym (le_antisymm l.auto.i-end c.loop-i-test.false) ∙ way-past c.args.x.now l.i l.invariant.1 (omega arith)
