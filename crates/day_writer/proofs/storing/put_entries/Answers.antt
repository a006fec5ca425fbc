-- One entry behind the other.
use Prim.Native.Nat.{◌*◌}
use mathlib.Core.Path.{◌≡◌, refl}
use native.Mathlib.Omega.{arith}
use lib.ListN.{length}
use Rattle.laws.proofs.Joins.{joined-start, joined-more}
use Rattle.laws.proofs.Parts.{part_length}
use Rattle.laws.proofs.Stores.{stored-then, stored-none}
use Rattle.laws.specs.Joined.{joined}
use Rattle.day.specs.Contents.{front, entry_at}
use Rattle.day.specs.Bodies.{size_at}
use Rattle.day.specs.Meets.{entry_of}
use Rattle.day.proofs.Forms.{entry_next}
use Rattle.day.proofs.Filed.{entries-long}
use Rattle.day_writer.specs.Writing.{name_of}
use borrow.Author.Rules.{rules}
use Rattle.day_writer.proofs.storing.put_entries.Goals as goal

pub loop-i-init : goal.loop-i-init
loop-i-init c =
    let g = c.args.given in
    (refl, rw (joined-start (entry_of g.width (name_of g.names.now) (size_at g.lengths.now))) (stored-none front c.args.room.now))

pub loop-i-preserved : goal.loop-i-preserved
unfolding name_of
loop-i-preserved c =
    let l = c.loop-i in
    let g = c.args.given in
    let entry = entry_of g.width (name_of g.names.now) (size_at g.lengths.now) in
    let long = entries-long (name_of g.names.now) (size_at g.lengths.now) l.i (λ j h. part_length (j * 8) 8 g.names.now (omega (arith, h, c.loop-i-test.true, g.one_each))) g.width in
    let next = entry_next g.width (length g.lengths.now) l.i c.loop-i-test.true in (
      search rules,
      rw (joined-more entry l.i) (stored-then front (entry_at g.width l.i) (joined entry l.i) (entry l.i) c.args.room.now l.room _ l.invariant.1 c.put_entry.ensures (omega (arith, long)) (omega (arith, next, c.requires))),
    )

pub returns : goal.returns
returns c =
    let l = c.loop-i in
    let e : length c.args.given.lengths.now ≡ l.i = omega (arith, l.auto.i-end, c.loop-i-test.false) in
    rw e l.invariant.1
