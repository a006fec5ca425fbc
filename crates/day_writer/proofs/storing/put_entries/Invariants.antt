-- One entry behind the other.
use mathlib.Core.Path.{◌≡◌}
use lib.ListN.{length}
use Rattle.laws.specs.Joined.{joined}
use Rattle.laws.specs.Stored.{stored}
use Rattle.day.specs.Contents.{front}
use Rattle.day.specs.Bodies.{size_at}
use Rattle.day.specs.Meets.{entry_of}
use Rattle.day_writer.specs.Writing.{name_of}
use Rattle.day_writer.proofs.storing.put_entries.Given as goal

abbrev pub invariant-loop-i : goal.invariant-loop-i
invariant-loop-i l =
    (length l.room ≡ length l.initial.room) × (l.room ≡ stored front (joined (entry_of l.given.width (name_of l.given.names.now) (size_at l.given.lengths.now)) l.i) l.initial.room)
