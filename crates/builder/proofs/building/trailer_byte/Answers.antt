-- What the row says.
use Rattle.std.proofs.Common.{sym, ◌∙◌}
use Rattle.builder.specs.Records.{trailer_fill}
use Rattle.builder.proofs.building.trailer_byte.Goals as goal

pub returns-then-fixed : goal.returns-then-fixed
unfolding trailer_fill
returns-then-fixed c = rw (← c.byte-theirs.ensures.value) (c.fill.ensures ∙ sym (c.fixed.ensures c.if-fixed.true _ _))

pub returns : goal.returns
unfolding trailer_fill
returns c = rw (← c.saturating_sub.ensures, ← c.digit_at-digit.ensures, ← c.byte-theirs.ensures.value) c.fill-2.ensures
