-- One record behind the other.
use mathlib.Core.Path.{◌∙◌}
use native.Mathlib.Omega.{arith}
use lib.ListN.{length}
use Rattle.changes_writer.proofs.Built.{records-none, records-more, refused-start, refused-within}
use Rattle.changes_writer.proofs.counting.Reply.put_records.Goals as goal

pub loop-i-init : goal.loop-i-init
loop-i-init c =
    let r = c.args.self in
    (refused-start r.answers.now, omega arith, records-none r.file.now r.answers.now r.answered c.args.room.now)

pub put_record-k-requires-clause-k_in_bounds : goal.put_record-k-requires-clause-k_in_bounds
put_record-k-requires-clause-k_in_bounds c =
    let l = c.loop-i in
    let r = c.args.self in
    omega (arith, l.invariant.0, l.auto.room, c.requires, refused-within r.answers.now l.i (length r.answers.now) l.auto.i-end)

pub loop-i-preserved : goal.loop-i-preserved
loop-i-preserved c =
    let l = c.loop-i in
    let r = c.args.self in
    let p = c.put_record-k.ensures in (
      p.value,
      p.upper_bound,
      p.room_after ∙
          rw l.invariant.2 (records-more r.file.now r.answers.now r.answered c.args.room.now l.i l.k l.invariant.0 c.loop-i-test.true (omega (arith, c.requires))),
    )
