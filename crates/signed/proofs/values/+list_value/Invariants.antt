-- A list holds values of its own level, and a value a list of one level less: the measure is twice the levels that are left, and one
-- more for a list. The loop takes one value after the other off what is left of the bytes.
use Rattle.std.proofs.Common.{length, ◌≡◌, ◌+◌, ◌*◌}
use Rattle.signed.specs.Checking.{is_list, size_within}
use Rattle.signed.proofs.values.+list_value.Given as goal

abbrev pub decreases-list : goal.decreases-list
decreases-list l = 2 * l.left + 1

abbrev pub decreases-value : goal.decreases-value
decreases-value l = 2 * l.left

abbrev pub invariant-list-loop-more : goal.invariant-list-loop-more
invariant-list-loop-more l = is_list (size_within l.left) l.s ≡ is_list (size_within l.left) l.more

abbrev pub decreases-list-loop-more : goal.decreases-list-loop-more
decreases-list-loop-more l = length l.more
