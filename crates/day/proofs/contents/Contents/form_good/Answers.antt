-- The form by the list of lengths.
use mathlib.Core.Path.{◌∙◌}
use native.Mathlib.Nat.{le_refl}
use Rattle.day.specs.Contents.{length_in, form_good}
use Rattle.day.proofs.Forms.{form-same}
use Rattle.day.proofs.Contained.{taken-at, taken-long}
use Rattle.day.proofs.contents.Contents.form_good.Goals as goal

pub returns : goal.returns
unfolding form_good
returns c =
    let w = c.args.self in
    let s = w.file.now in
    let all = le_refl w.n in
    let told = rw (c.lengths.ensures, taken-long s w.n w.n all w.few) at c.form_for.ensures in
    rw (told ∙ form-same _ (length_in s) w.n (taken-at s w.n w.n all))
