-- Item 3 of the header.
use mathlib.Core.Path.{◌∙◌}
use Rattle.writer.specs.Apart.{head_in}
use Rattle.apart.proofs.taking.code.Goals as goal

pub returns : goal.returns
unfolding head_in
returns c = c.part_of.ensures ∙ rw c.header.ensures
