-- The key is looked up, and what is found is marked.
use Prim.Native.Nat.{◌<◌}
use mathlib.Core.Bool.{true, false}
use mathlib.Core.Path.{◌≡◌, sym, ◌∙◌}
use native.Mathlib.Omega.{arith}
use borrow.Author.Tests.{eq-eqb, ne_eqb, ltb-true, ltb-false}
use Rattle.keys.proofs.Found.{below-some, below_none}
use Rattle.kinds.specs.Kinds.{EB13}
use Rattle.records.proofs.Places.{count_small}
use Rattle.evidence.specs.Blocks.{records_in}
use Rattle.consent.specs.Comparing.{is_new}
use Rattle.consent.specs.Marks.{found_for}
use Rattle.consent.proofs.Marked.{found-by, old-told, old-marked, found-told, found-marked, lacks-told, lacks-marked}
use Rattle.consent.proofs.evidenced.enrolment_tells.Goals as goal

pub overflow_add-i : goal.overflow_add-i
overflow_add-i c = omega (arith, count_small EB13 c.args.enrolments.now, c.requires.i_bound)

pub returns-then-byte-ne49 : goal.returns-then-byte-ne49
unfolding is_new
returns-then-byte-ne49 c =
    let a = c.args in
    let old : is_new a.enrolments.now a.i ≡ false = ne_eqb _ _ (λ q. c.if-byte-ne49.true (rw c.record_of-rec.ensures.result_value at c.byte.ensures.value ∙ q)) in
    record {
      value = sym (old-told a.enrolments.now a.evidence.file.now a.i old);
      marks_after = sym (old-marked a.enrolments.now a.evidence.file.now a.i old a.marks.now);
    }

pub overflow_add-result : goal.overflow_add-result
overflow_add-result c = omega (arith, count_small EB13 c.args.enrolments.now, c.requires.i_bound)

pub returns-in_default : goal.returns-in_default
unfolding is_new
returns-in_default c =
    let a = c.args in
    let e = a.enrolments.now in
    let s = a.evidence.file.now in
    let t = a.evidence.listed in
    let new : is_new e a.i ≡ true = eq-eqb _ _ (sym (rw c.record_of-rec.ensures.result_value at c.byte.ensures.value) ∙ c.if-byte-ne49.false) in
    let none = below_none _ _ (rw (c.in_default.is, c.asked.ensures, c.record_of-rec.ensures.result_value, a.evidence.spaced, found-by e s _ _ _ a.i t, t.all) at c.place.ensures) in
    let past = ltb-false _ _ none in
    record {
      value = sym (lacks-told e s a.i new past);
      marks_after = sym (lacks-marked e s a.i new past a.marks.now);
    }

pub returns : goal.returns
unfolding is_new
returns c =
    let a = c.args in
    let e = a.enrolments.now in
    let s = a.evidence.file.now in
    let t = a.evidence.listed in
    let new : is_new e a.i ≡ true = eq-eqb _ _ (sym (rw c.record_of-rec.ensures.result_value at c.byte.ensures.value) ∙ c.if-byte-ne49.false) in
    let found = below-some _ _ _ (rw (c.in-Some.is, c.asked.ensures, c.record_of-rec.ensures.result_value, a.evidence.spaced, found-by e s _ _ _ a.i t, t.all) at c.place.ensures) in
    let below : found_for e s a.i < records_in s = ltb-true _ _ found.0 in
    record {
      value = sym (found-told e s a.i new below);
      marks_after = rw (← found.1) (sym (found-marked e s a.i new below a.marks.now));
    }
