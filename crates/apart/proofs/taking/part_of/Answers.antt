-- What is left from its start on, cut where it is longer.
use Rattle.std.proofs.Common.{◌∙◌}
use Rattle.std.proofs.lemmas.List.{take_min}
use Rattle.laws.specs.Part.{part}
use Rattle.apart.proofs.taking.part_of.Goals as goal

pub returns : goal.returns
unfolding part
returns c = rw c.min.ensures (take_min c.args.size c.rest-left.result.now ∙ rw c.rest-left.ensures)
