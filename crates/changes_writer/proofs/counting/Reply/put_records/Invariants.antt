-- One record behind the other.
use Prim.Native.Nat.{◌≤◌}
use mathlib.Core.Path.{◌≡◌}
use Rattle.laws.specs.Joined.{joined}
use Rattle.laws.specs.Stored.{stored}
use Rattle.changes_writer.specs.Building.{refused_to, record_for}
use Rattle.changes_writer.proofs.counting.Reply.put_records.Given as goal

abbrev pub invariant-loop-i : goal.invariant-loop-i
invariant-loop-i l =
    (l.k ≡ refused_to l.self.answers.now l.i) × (l.k ≤ l.i) × (l.room ≡ stored 120 (joined (record_for l.self.file.now l.self.answers.now) l.i) l.initial.room)
