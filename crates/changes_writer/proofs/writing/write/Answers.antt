-- The decision, then the room; only then is anything stored.
use Rattle.std.specs.Prelude.{Err}
use mathlib.Core.Path.{◌≡◌, refl}
use native.Mathlib.Omega.{arith}
use borrow.Author.Rules.{rules}
use Rattle.answers.specs.Answers.{accepted, refused}
use Rattle.answers.specs.Refusing.{told_by}
use Rattle.answers.proofs.Stored.{told-refused, told-8, told-good}
use Rattle.answers.proofs.Tellings.{told-refuses, good}
use Rattle.changes.specs.Deciding.{decided}
use Rattle.changes_writer.specs.Building.{file_for}
use Rattle.changes_writer.specs.Writing.{write_of, room_after, write_told, written}
use Rattle.changes_writer.proofs.Ready.{decided-ready, size_is}
use Rattle.changes_writer.proofs.writing.write.Goals as goal

pub returns-in_err-decide : goal.returns-in_err-decide
unfolding write_of room_after write_told written
returns-in_err-decide c =
    let a = c.args in
    let r = c.in_err-decide.field-0.0 in
    let e : c.from_residual.result ≡ Err r = search rules in
    let q = told-refused (decided a.file.now a.answers.now) (file_for a.file.now a.answers.now) a.room.now (told_by r) c.in_err-decide.ensures (told-refuses r) in
    record {
      value = rw e q.0;
      room_after = q.1;
    }

pub invariant_of-reply : goal.invariant_of-reply
invariant_of-reply c = record { answered = decided-ready _ _ (good _ c.in_ok-decide.ensures) }

pub returns-then-room-size : goal.returns-then-room-size
unfolding write_of room_after write_told written
returns-then-room-size c =
    let a = c.args in
    let z = good _ c.in_ok-decide.ensures in
    let e = size_is a.file.now a.answers.now z _ c.refused_count.ensures.value in
    let q = told-8 (decided a.file.now a.answers.now) (file_for a.file.now a.answers.now) a.room.now (refused 8) z (omega (arith, e, c.if-room-size.true)) refl in
    record {
      value = q.0;
      room_after = q.1;
    }

pub returns : goal.returns
unfolding write_of room_after write_told written
returns c =
    let a = c.args in
    let z = good _ c.in_ok-decide.ensures in
    let e = size_is a.file.now a.answers.now z _ c.refused_count.ensures.value in
    let q = told-good (decided a.file.now a.answers.now) (file_for a.file.now a.answers.now) a.room.now accepted _ _ z (omega (arith, e, c.if-room-size.false)) refl e c.put.ensures in
    record {
      value = q.0;
      room_after = q.1;
    }
