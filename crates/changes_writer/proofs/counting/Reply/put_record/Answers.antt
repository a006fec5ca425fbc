-- A yes stores nothing; a no its record.
use Prim.Native.Nat.{◌+◌, ◌*◌}
use native.Mathlib.Omega.{arith}
use Rattle.laws.proofs.Stores.{stored-none}
use Rattle.changes_writer.proofs.Built.{no-yes, no_other, yes-more, yes-record, no_more, no_record}
use Rattle.changes_writer.proofs.counting.Reply.put_record.Goals as goal

pub returns-then-code-eq0 : goal.returns-then-code-eq0
returns-then-code-eq0 c =
    let r = c.args.self in
    let f = no-yes r.answers.now c.args.i c.if-code-eq0.true in
    record {
      value = rw c.requires.k_value (yes-more r.file.now r.answers.now c.args.i f);
      upper_bound = omega (arith, c.requires.k_le_i);
      room_after = rw (yes-record r.file.now r.answers.now c.args.i f) (stored-none (c.args.k * 120 + 120) c.args.room.now);
    }

pub returns : goal.returns
returns c =
    let r = c.args.self in
    let t = no_other r.answers.now c.args.i c.if-code-eq0.false in
    let p = c.requires.k_value in
    record {
      value = rw p (no_more r.file.now r.answers.now c.args.i t);
      upper_bound = omega (arith, c.requires.k_le_i);
      room_after = rw (no_record r.file.now r.answers.now c.args.i t, ← p, ← c.record_of-from.ensures.result_value, ← c.refused-rec.ensures) c.put.ensures;
    }
