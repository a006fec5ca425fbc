-- `starts_with` compares the front.
use Rattle.std.proofs.Common.{◌∙◌}
use Rattle.laws.proofs.Positions.{begins_pointwise}
use Rattle.text.proofs.parts.begins.Goals as goal

pub returns : goal.returns
returns c = c.starts_with.ensures.value ∙ begins_pointwise c.args.x.now c.args.s.now
