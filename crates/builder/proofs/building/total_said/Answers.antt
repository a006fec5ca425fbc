-- Where the class fixes what is written, no total changes it.
use Rattle.std.proofs.Common.{sym, ◌∙◌}
use Rattle.builder.specs.Records.{trailer_fill, trailer_by}
use Rattle.builder.proofs.building.total_said.Goals as goal

pub returns-then-fixed : goal.returns-then-fixed
unfolding trailer_by trailer_fill
returns-then-fixed c header j = let same = c.fixed.ensures c.if-fixed.true in same _ _ ∙ sym (same _ _)

pub returns : goal.returns
unfolding trailer_by
returns c header j = rw c.total_for.ensures
