-- One digit after the other.
use lib.ListN.{length-set}
use lib.Seq.{paste-zero}
use mathlib.Core.Path.{refl}
use native.Mathlib.Omega.{arith}
use Rattle.laws.proofs.Stores.{paste_more, paste_all}
use Rattle.numbers.specs.Numbers.{digits_of}
use Rattle.numbers.proofs.Values.{digits-length}
use Rattle.numbers.proofs.base_ten.put_digits.Goals as goal

pub loop-i-init : goal.loop-i-init
loop-i-init c = let a = c.args in (paste-zero a.room.now a.at (digits_of a.w a.n), refl)

pub loop-i-preserved : goal.loop-i-preserved
loop-i-preserved c =
    let l = c.loop-i in
    let a = c.args in
    let long = digits-length a.w a.n in
    let inside = c.loop-i-test.true in (
      paste_more a.room.now (digits_of a.w a.n) l.room a.at l.i c.digit_at.result l.invariant.0 c.digit_at.ensures
          (omega arith) (omega (arith, long, inside)),
      simp length-set l.invariant.1,
    )

pub returns : goal.returns
returns c =
    let l = c.loop-i in
    let a = c.args in
    paste_all a.room.now (digits_of a.w a.n) l.room a.at l.i l.invariant.0 (omega (arith, digits-length a.w a.n))
