-- The sum so far.
use Prim.Native.Nat.{◌≤◌, ◌*◌, ◌^◌}
use mathlib.Core.Path.{◌≡◌}
use Rattle.laws.specs.Sum
use Rattle.changes_writer.specs.Building.{worth_if}
use Rattle.changes_writer.proofs.counting.Reply.refused_of.Given as goal

abbrev pub invariant-loop-i : goal.invariant-loop-i
invariant-loop-i l = (l.sum ≡ Sum.sum (worth_if l.self.file.now l.self.answers.now l.quantity) l.i) × (l.sum ≤ l.i * 10 ^ 13)
