-- The kind that the number names, where its form goes into a day file.
use Rattle.std.proofs.Common.{arith}
use Rattle.std.proofs.lemmas.Grind.{common_steps}
use Rattle.kinds.specs.Kinds.{daily_of}
use Rattle.kinds.proofs.of_files.daily_of.Goals as goal

pub returns : goal.returns
unfolding daily_of
returns c = rw (← c.kind_of.ensures) (grind (arith, common_steps))
