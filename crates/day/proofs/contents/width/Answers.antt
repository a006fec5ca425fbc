-- Six in form "2", else five.
use mathlib.Core.Path.{refl}
use native.Mathlib.Omega.{arith}
use borrow.Author.Tests.{eq-eqb, ne_eqb}
use Rattle.day.specs.Contents.{width_of}
use Rattle.day.proofs.contents.width.Goals as goal

pub returns-then-form-eq-FORM_TWO : goal.returns-then-form-eq-FORM_TWO
unfolding width_of
returns-then-form-eq-FORM_TWO c =
    rw (eq-eqb _ 0x32 c.if-form-eq-FORM_TWO.true) (record {
      value = refl;
      upper_bound = omega arith;
    })

pub returns : goal.returns
unfolding width_of
returns c =
    rw (ne_eqb _ 0x32 c.if-form-eq-FORM_TWO.false) (record {
      value = refl;
      upper_bound = omega arith;
    })
