-- The digit as it stands in the text is the one of the definition.
use Rattle.text.specs.Passbook.{mixed_with, mixed_form}
use mathlib.Core.Path.{sym, ◌∙◌}
use native.Mathlib.Omega.{arith}
use Rattle.text.proofs.Classes.{within_low, within-high}
use Rattle.text.proofs.Passbooks.{digit-said, digit-again}
use Rattle.text.proofs.passbook.mixed_form.Goals as goal

pub overflow_sub-k : goal.overflow_sub-k
overflow_sub-k c = let w = sym c.within.ensures ∙ c.if-within.true in omega (arith, within_low 0x32 0x35 _ w)

pub overflow_sub-k-then-within : goal.overflow_sub-k-then-within
overflow_sub-k-then-within c = let w = sym c.within.ensures ∙ c.if-within.true in omega (arith, within-high 0x32 0x35 _ w)

pub setting-requires : goal.setting-requires
setting-requires c =
    let w = sym c.within.ensures ∙ c.if-within.true in
    record {
      mark_len_bound = omega arith;
      n_bound = omega (arith, within-high 0x32 0x35 _ w);
      m_bound = omega arith;
    }

pub returns-then-within : goal.returns-then-within
unfolding mixed_form mixed_with
returns-then-within c =
    let w = sym c.within.ensures ∙ c.if-within.true in
    rw (← c.byte-digit.ensures.value, ← digit-said c.byte-digit.result, w, digit-again c.byte-digit.result w) c.setting.ensures

pub returns : goal.returns
unfolding mixed_form mixed_with
returns c = rw (← c.byte-digit.ensures.value, ← digit-said c.byte-digit.result, ← c.within.ensures, c.if-within.false)
