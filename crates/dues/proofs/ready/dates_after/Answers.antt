-- The date is stored where the last of its sort stands.
use Rattle.dues.specs.Posting.{dates_as}
use mathlib.Core.Path.{◌∙◌}
use Rattle.dues.proofs.ready.dates_after.Goals as goal

pub returns : goal.returns
unfolding dates_as
returns c = c.put.ensures ∙ rw (c.date_start.ensures.value, c.day.ensures.result_value)
