-- The loop goes on until an enrolment lacks its evidence.
use Rattle.std.specs.Prelude.{Err}
use borrow.Author.Rules.{rules}
use mathlib.Core.Path.{◌≡◌, refl, sym, ◌∙◌}
use native.Mathlib.Nat.{le_antisymm}
use native.Mathlib.Omega.{arith}
use Prim.Native.Nat.{◌<◌}
use Rattle.answers.proofs.Tellings.{bad, loop-start, loop-stop, loop-more, loop-end}
use Rattle.answers.proofs.Refusals.{So-far}
use Rattle.kinds.specs.Kinds.{EB13}
use Rattle.records.specs.Records.{data_of}
use Rattle.consent.specs.Comparing.{lacks_told}
use Rattle.consent.proofs.Marked.{refused-marked, marked-length, marked_more, marked_start, good-stop, good-end}
use Rattle.consent.proofs.evidenced.enrolments_tell.Goals as goal

pub loop-i-init : goal.loop-i-init
loop-i-init c = (loop-start _, refl, sym (marked_start _ _ _))

pub enrolment_tells-requires : goal.enrolment_tells-requires
enrolment_tells-requires c =
    let l = c.loop-i in
    record {
      i_bound = omega (arith, c.data_count-i-end.ensures, c.loop-i-test.true);
      count_in_bounds = rw l.invariant.1 c.requires;
    }

pub returns-in_err-enrolment_tells : goal.returns-in_err-enrolment_tells
returns-in_err-enrolment_tells c =
    let l = c.loop-i in
    let a = c.args in
    let k = c.in_err-enrolment_tells.ensures in
    let r = c.in_err-enrolment_tells.field-0.0 in
    let e : c.from_residual.result ≡ Err r = search rules in
    let h : l.i < data_of EB13 a.enrolments.now = omega (arith, c.data_count-i-end.ensures, c.loop-i-test.true) in
    let ne = bad r _ k.value in
    rw e (record {
      value = loop-stop _ r l.i _ h l.invariant.0 k.value;
      marks_after = rw (good-stop a.enrolments.now a.evidence.file.now l.i h l.invariant.0 ne) (k.marks_after ∙ (refused-marked a.enrolments.now a.evidence.file.now l.i ne l.marks ∙ l.invariant.2));
    })

pub loop-i-preserved : goal.loop-i-preserved
loop-i-preserved c =
    let l = c.loop-i in
    let a = c.args in
    let k = c.in_ok-enrolment_tells.ensures in (
      loop-more (lacks_told a.enrolments.now a.evidence.file.now) l.i l.invariant.0 k.value,
      rw k.marks_after (marked-length a.enrolments.now a.evidence.file.now l.i l.marks ∙ l.invariant.1),
      rw (marked_more a.enrolments.now a.evidence.file.now l.i a.marks.now, ← l.invariant.2) k.marks_after,
    )

pub returns : goal.returns
returns c =
    let l = c.loop-i in
    let a = c.args in
    let n : l.i ≡ data_of EB13 a.enrolments.now = le_antisymm l.auto.i-end c.loop-i-test.false ∙ c.data_count-i-end.ensures in
    let far : So-far (lacks_told a.enrolments.now a.evidence.file.now) (data_of EB13 a.enrolments.now) = rw n at l.invariant.0 in
    record {
      value = loop-end _ l.i _ (omega (arith, n)) (omega (arith, n)) l.invariant.0;
      marks_after = rw (good-end a.enrolments.now a.evidence.file.now far, ← n) l.invariant.2;
    }
