-- The name, then the digits behind it.
use Prim.Native.Nat.{◌+◌, ◌*◌}
use native.Mathlib.Omega.{arith}
use lib.ListN.{length}
use Rattle.laws.proofs.Parts.{part_length}
use Rattle.laws.proofs.Stores.{stored-then}
use Rattle.numbers.specs.Numbers.{digits_of}
use Rattle.day.specs.Contents.{entry_at}
use Rattle.day.specs.Bodies.{size_at}
use Rattle.day.specs.Meets.{entry_of}
use Rattle.day.proofs.Forms.{entry_next}
use Rattle.day_writer.specs.Writing.{name_of}
use Rattle.day_writer.proofs.storing.put_entry.Goals as goal

pub returns : goal.returns
unfolding entry_of name_of size_at
returns c =
    let g = c.args.given in
    let i = c.args.i in
    let long = part_length (i * 8) 8 g.names.now (omega (arith, c.requires.i_in_bounds, g.one_each)) in
    let at = entry_at g.width i in
    let next = entry_next g.width (length g.lengths.now) i c.requires.i_in_bounds in
    stored-then at (at + 8) (name_of g.names.now i) (digits_of g.width (size_at g.lengths.now i)) c.args.room.now c.put.new.room c.put_digits.new.room
    (rw (← c.part.ensures.result_value, ← c.entry_at-at.ensures) c.put.ensures) (rw (← c.entry_at-at.ensures) c.put_digits.ensures) (omega (arith, long)) (omega (arith, next, c.requires.entries_in_bounds))
