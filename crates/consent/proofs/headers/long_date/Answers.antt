-- "20" and the six digits.
use mathlib.Core.Path.{◌∙◌}
use Rattle.consent.proofs.Asked.{long-stored}
use Rattle.consent.proofs.headers.long_date.Goals as goal

pub returns : goal.returns
returns c = c.put.ensures ∙ long-stored c.args.date.now c.requires
