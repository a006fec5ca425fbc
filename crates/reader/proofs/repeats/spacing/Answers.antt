-- By the kind's fixed numbers.
use Rattle.reader.proofs.repeats.spacing.Goals as goal

pub overflow_add-result : goal.overflow_add-result
overflow_add-result c = rw c.of-fixed.ensures (record { fits = c.requires })

pub returns : goal.returns
returns c = rw c.of-fixed.ensures
