-- Refusals first; then the file.
use Rattle.std.specs.Prelude.{Err}
use Prim.Native.Nat.{◌+◌}
use mathlib.Core.Path.{◌≡◌, refl, sym, ◌∙◌}
use borrow.Author.Rules.{rules}
use native.Mathlib.Omega.{arith}
use lib.ListN.{length}
use Rattle.answers.specs.OfDay.{told_of_day, day_accepted, short_room}
use Rattle.answers.proofs.OfDay.{day-number}
use Rattle.answers.proofs.Tellings.{day-bad, day-refusal}
use Rattle.day_writer.specs.Writing.{file_for}
use Rattle.day_writer.proofs.Decides.{decided-given}
use Rattle.day_writer.proofs.Stored.{for-long, told-decided, told-8, told-good, write-refused, write-good}
use Rattle.day_writer.proofs.writing.write.Goals as goal

pub returns-in_err-given : goal.returns-in_err-given
returns-in_err-given c =
    let a = c.args in
    let r = c.in_err-given.field-0.0 in
    let e : c.from_residual.result ≡ Err r = search rules in
    let told = c.in_err-given.ensures.told in
    let q = write-refused a.names.now a.lengths.now a.bodies.now a.room.now (told_of_day r) (told-decided _ _ _ _ (day-bad r _ told) ∙ sym told) (day-refusal r) in
    rw e (record {
      value = q.0;
      room_after = q.1;
    })

pub returns-then-room-size : goal.returns-then-room-size
returns-then-room-size c =
    let a = c.args in
    let w = c.in_ok-given in
    let z = day-number (sym w.ensures.told) in
    let end = rw (w.given.wide, w.ensures.of.1) at c.end.ensures.value in
    let short = rw (end, ← for-long a.names.now a.lengths.now a.bodies.now (decided-given _ _ _ z)) at c.if-room-size.true in
    let q = write-refused a.names.now a.lengths.now a.bodies.now a.room.now short_room (told-8 _ _ _ _ z short) (λ o. absurd (omega (arith, o))) in
    record {
      value = q.0;
      room_after = q.1;
    }

pub put-requires : goal.put-requires
put-requires c =
    let w = c.in_ok-given in
    rw (← c.end.ensures.value, w.ensures.of.2) c.if-room-size.false

pub returns : goal.returns
returns c =
    let a = c.args in
    let w = c.in_ok-given in
    let z = day-number (sym w.ensures.told) in
    let end = rw (w.given.wide, w.ensures.of.1) at c.end.ensures.value in
    let size : c.end.result + length a.bodies.now ≡ length (file_for a.names.now a.lengths.now a.bodies.now) = rw end (sym (for-long a.names.now a.lengths.now a.bodies.now (decided-given _ _ _ z))) in
    let fits = rw size at c.if-room-size.false in
    let put = rw (w.ensures.of.0, w.ensures.of.1, w.ensures.of.2) at c.put.ensures in
    let q = write-good a.names.now a.lengths.now a.bodies.now a.room.now day_accepted (told-good _ _ _ _ z fits) _ _ refl size put in
    record {
      value = q.0;
      room_after = q.1;
    }
