-- The form, the count, the entries, the bodies.
use Prim.Native.Nat.{◌*◌, zero-le}
use mathlib.Core.List.{[], ◌∷◌, ◌++◌}
use mathlib.Core.Path.{refl}
use native.Mathlib.Omega.{arith}
use lib.ListN.{length}
use Rattle.laws.specs.Joined.{joined}
use Rattle.laws.proofs.Parts.{part_length}
use Rattle.laws.proofs.Stores.{stored-then}
use Rattle.numbers.specs.Numbers.{digits_of}
use Rattle.numbers.proofs.Values.{digits-length}
use Rattle.day.specs.Contents.{form_for, width_for, front, entry_at}
use Rattle.day.specs.Bodies.{size_at}
use Rattle.day.specs.Meets.{entry_of, file_of}
use Rattle.day.proofs.Filed.{entries-long}
use Rattle.day_writer.specs.Writing.{name_of, file_for}
use borrow.Author.Rules.{rules}
use Rattle.day_writer.proofs.storing.put.Goals as goal

pub returns : goal.returns
unfolding file_for file_of name_of
returns c =
    let g = c.args.given in
    let n = length g.lengths.now in
    let width = width_for (size_at g.lengths.now) n in
    let entries = joined (entry_of width (name_of g.names.now) (size_at g.lengths.now)) n in
    let bodies = g.bodies.now in
    let long = entries-long (name_of g.names.now) (size_at g.lengths.now) n (λ j h. part_length (j * 8) 8 g.names.now (omega (arith, h, g.one_each))) width in
    let r₁ = c.put.new.room in
    let r₂ = c.put_digits.new.room in
    let r₃ = c.put_entries.new.room in
    let last = c.put-2.new.room in
    stored-then 0 1 (form_for (size_at g.lengths.now) n ∷ []) (digits_of 2 n ++ (entries ++ bodies)) c.args.room.now r₁ last (rw (← g.formed) c.put.ensures)
    (stored-then 1 front (digits_of 2 n) (entries ++ bodies) r₁ r₂ last c.put_digits.ensures
    (stored-then front (entry_at width n) entries bodies r₂ r₃ last (rw (← g.wide) c.put_entries.ensures) (rw (← g.wide, ← c.end.ensures.value) c.put-2.ensures) (omega (arith, long)) (search rules))
    (omega (arith, digits-length 2 n)) (search rules))
    refl zero-le
