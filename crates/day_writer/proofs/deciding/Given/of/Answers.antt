-- Names, then lengths.
use mathlib.Core.Bool.{true}
use mathlib.Core.Path.{◌≡◌, refl, ◌∙◌, ap}
use Rattle.day.specs.Contents.{width_of}
use Rattle.day_writer.specs.Writing.{given_good}
use Rattle.day_writer.proofs.Decides.{good-given}
use Rattle.day_writer.proofs.deciding.Given.of.Goals as goal
use Rattle.day_writer.proofs.deciding.Given.of.Goals.{then-not-names_good-via-then-not-names_good, then-not-names_good-via-else-not-names_good+then-not-lengths_good}

pub returns-then-not-names_good-clause-good : goal.returns-then-not-names_good-clause-good
unfolding given_good
returns-then-not-names_good-clause-good c =
    rw (← c.names_good.ensures) (elim c.then-not-names_good.branch [
      | then-not-names_good-via-then-not-names_good w ↦ rw (w.if-not-names_good.true)
      | then-not-names_good-via-else-not-names_good+then-not-lengths_good w ↦ rw (w.if-not-names_good.false, ← w.lengths_good.ensures, w.if-not-lengths_good.true)
    ])

pub invariant_of-result : goal.invariant_of-result
unfolding given_good
invariant_of-result c =
    let both : given_good c.args.names.now c.args.lengths.now ≡ true = rw (← c.names_good.ensures, ← c.lengths_good.ensures, c.if-not-names_good.false, c.if-not-lengths_good.false) refl in
    let g = good-given c.args.names.now c.args.lengths.now both in
    record {
      few = g.few;
      one_each = g.one_each;
      short = g.short;
      formed = c.form_for-form.ensures;
      wide = c.width.ensures.value ∙ ap width_of c.form_for-form.ensures;
      digits = c.width.ensures.upper_bound;
    }

pub returns-clause-good : goal.returns-clause-good
unfolding given_good
returns-clause-good c = rw (← c.names_good.ensures, c.if-not-names_good.false, ← c.lengths_good.ensures, c.if-not-lengths_good.false)
