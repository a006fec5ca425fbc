-- One record behind the other.
use Prim.Native.Nat.{◌+◌, ◌*◌}
use lib.ListN.{length}
use mathlib.Core.Path.{◌≡◌}
use Rattle.laws.specs.Joined.{joined}
use Rattle.laws.specs.Stored.{stored}
use Rattle.evidence.specs.Blocks.{block}
use Rattle.evidence_builder.specs.Units.{place_of, blocks_to}
use Rattle.evidence_builder.specs.Files.{record_of}
use Rattle.evidence_writer.proofs.writing.store_records.Given as goal

abbrev pub invariant-loop-i : goal.invariant-loop-i
invariant-loop-i l =
    (l.p ≡ place_of l.x l.i) × (l.at ≡ block + blocks_to l.x l.i * block) × (length l.room ≡ length l.initial.room) ×
    (l.room ≡ stored block (joined (record_of l.code l.x) l.i) l.initial.room)
