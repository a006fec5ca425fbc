-- The entries, then their lengths and the form.
use Rattle.std.specs.Prelude.{None}
use mathlib.Core.Path.{◌≡◌}
use borrow.Author.Rules.{rules}
use Rattle.day.proofs.Contained.{entries-none, entries-some}
use Rattle.day.proofs.contents.Contents.of.Goals as goal
use Rattle.day.proofs.contents.Contents.of.Goals.{else-lengths_good-via-then-lengths_good+else-form_good, else-lengths_good-via-else-lengths_good}

pub returns-in_err-contents-clause-good : goal.returns-in_err-contents-clause-good
returns-in_err-contents-clause-good c =
    let e : c.from_residual.result ≡ None = search rules in
    rw e (entries-none c.args.file.now c.in_err-contents.ensures.good)

pub returns-then-form_good-clause-good : goal.returns-then-form_good-clause-good
returns-then-form_good-clause-good c =
    let w = c.in_ok-contents in
    let file = w.ensures.of in
    rw (
      ← entries-some c.args.file.now w.ensures.good,
      ← (rw file at w.contents.by_count),
      ← (rw file at c.lengths_good.ensures),
      c.if-lengths_good.true,
      ← (rw file at c.form_good.ensures),
      c.if-form_good.true,
    )

pub returns-clause-good : goal.returns-clause-good
returns-clause-good c =
    let w = c.in_ok-contents in
    let file = w.ensures.of in
    rw (← entries-some c.args.file.now w.ensures.good, ← (rw file at w.contents.by_count), ← (rw file at c.lengths_good.ensures)) (elim c.else-lengths_good.branch [
      | else-lengths_good-via-then-lengths_good+else-form_good v ↦ rw (v.if-lengths_good.true, ← (rw file at v.form_good.ensures), v.if-form_good.false)
      | else-lengths_good-via-else-lengths_good v ↦ rw (v.if-lengths_good.false)
    ])
