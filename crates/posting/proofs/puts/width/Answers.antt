-- By the highest power of ten in the number.
use Rattle.posting.proofs.Widths.{width-log, width-zero}
use mathlib.Core.Path.{sym}
use Rattle.posting.proofs.puts.width.Goals as goal

pub returns-in-Some-clause-value : goal.returns-in-Some-clause-value
returns-in-Some-clause-value c =
    let k = c.checked_ilog10.ensures in
    sym (width-log _ _ (rw c.in-Some.is at k.bound) (rw c.in-Some.is at k.power_le) (rw c.in-Some.is at k.next_power_gt))

pub returns-in-None-clause-value : goal.returns-in-None-clause-value
returns-in-None-clause-value c = rw (rw c.in-None.is at c.checked_ilog10.ensures.none) (sym width-zero)
