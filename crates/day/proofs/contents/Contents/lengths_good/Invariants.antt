-- The digits of one length after the other.
use mathlib.Core.Path.{◌≡◌}
use Rattle.laws.specs.Least.{least}
use Rattle.day.specs.Contents.{bad_length}
use Rattle.day.proofs.contents.Contents.lengths_good.Given as goal

abbrev pub invariant-loop-i : goal.invariant-loop-i
invariant-loop-i l = least (bad_length l.self.file.now) l.i ≡ l.i
