-- The kind that the number names, where its form is written.
use Rattle.std.proofs.Common.{arith}
use Rattle.std.proofs.lemmas.Grind.{common_steps}
use Rattle.kinds.specs.Kinds.{request_of}
use Rattle.kinds.proofs.of_files.request_of.Goals as goal

pub returns : goal.returns
unfolding request_of
returns c = rw (← c.kind_of.ensures) (grind (arith, common_steps))
