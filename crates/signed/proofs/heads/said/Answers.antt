-- One byte says itself, more than one the number that follows the first.
use mathlib.Core.Path.{sym, ◌∙◌}
use native.Mathlib.Omega.{arith}
use Rattle.signed.specs.Checking.{front_of}
use Rattle.signed.proofs.Framing.{short-said, long-said}
use Rattle.signed.proofs.heads.said.Goals as goal

pub returns-then-first-lt128 : goal.returns-then-first-lt128
returns-then-first-lt128 c =
    let s = c.args.s.now in
    let e = c.from.ensures ∙ c.byte-first.ensures.value in
    e ∙ sym (short-said s (omega (arith, e)))

pub part-requires : goal.part-requires
unfolding front_of
part-requires c = omega (arith, c.from-2.ensures, c.byte-first.ensures.value, c.requires.s_in_bounds)

pub number-requires : goal.number-requires
unfolding front_of
number-requires c = omega (arith, c.from-2.ensures, c.part.ensures.result_len, c.byte-first.ensures.value, c.requires.s_bound)

pub returns : goal.returns
returns c =
    let s = c.args.s.now in
    let e = c.byte-first.ensures.value in
    rw (c.number.ensures, c.part.ensures.result_value, c.from-2.ensures, e) (sym (long-said s (omega (arith, e))))
