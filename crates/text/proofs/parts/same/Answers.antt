-- `==` compares byte by byte.
use Rattle.std.proofs.Common.{◌∙◌}
use Rattle.laws.proofs.Positions.{same_pointwise}
use Rattle.text.proofs.parts.same.Goals as goal

pub returns : goal.returns
returns c = c.eq.ensures ∙ same_pointwise c.args.a.now c.args.b.now
