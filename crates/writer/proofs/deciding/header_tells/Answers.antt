-- The header stands in front, and is judged against itself.
use Rattle.kinds.specs.Kinds.{fixed_of}
use Rattle.builder.proofs.Lengths.{header-length}
use Rattle.builder.specs.Records.{given, header_built}
use Rattle.records.specs.Records.{record_of}
use Rattle.writer.proofs.Frame.{frame-count, stored_there}
use Rattle.writer.specs.Writing.{header_told}
use mathlib.Core.Path.{◌≡◌, sym}
use native.Mathlib.Nat.{zero-mul}
use Prim.Native.Nat.{zero-le}
use native.Mathlib.Omega.{arith}
use Rattle.writer.proofs.deciding.header_tells.Goals as goal

pub judge_at-requires : goal.judge_at-requires
judge_at-requires c = omega (arith, frame-count c.args.kind c.put_header.new.file (omega (arith, c.put_header.auto.file)))

pub returns : goal.returns
unfolding header_told
returns c =
    let k = c.args.kind in
    let front : record_of k c.put_header.new.file 0 ≡ header_built k (given c.args.head) =
    rw c.put_header.ensures (stored_there k c.args.frame.now _ 0 0 (sym (zero-mul (fixed_of k).size)) zero-le (header-length k _)) in
    record {
      value = rw front at c.judge_at.ensures;
      frame_after = front;
    }
