-- Item 7 of the header, as long as the kind has it.
use mathlib.Core.Path.{◌∙◌}
use Rattle.writer.specs.Apart.{head_in}
use Rattle.apart.proofs.taking.item7.Goals as goal

pub returns : goal.returns
unfolding head_in
returns c = c.part_of.ensures ∙ rw (c.of.ensures, c.header.ensures)
