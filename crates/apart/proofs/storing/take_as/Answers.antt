-- Reading first, then the room; only then is anything stored.
use Rattle.std.specs.Prelude.{Err}
use mathlib.Core.Path.{◌≡◌}
use borrow.Author.Rules.{rules}
use native.Mathlib.Omega.{arith}
use Rattle.answers.specs.Refusing.{told_by}
use Rattle.answers.proofs.Tellings.{good, told-refuses}
use Rattle.apart.proofs.Bodies.{bodies-within}
use Rattle.apart.proofs.Stored.{told-read, told-8, told-good}
use Rattle.apart.proofs.storing.take_as.Goals as goal

pub returns-in_err-read_as : goal.returns-in_err-read_as
returns-in_err-read_as c =
    let a = c.args in
    let r = c.in_err-read_as.field-0.0 in
    let e : c.from_residual.result ≡ Err r = search rules in
    let q = told-read a.kind a.file.now a.room.now (told_by r) c.in_err-read_as.ensures (told-refuses r) in
    rw e (record {
      value = q.0;
      room_after = q.1;
    })

pub overflow_mul-size : goal.overflow_mul-size
overflow_mul-size c =
    let a = c.args in
    rw (c.of.ensures, c.data_count.ensures) (omega (arith, bodies-within a.kind a.file.now))

pub returns-then-room-size : goal.returns-then-room-size
returns-then-room-size c =
    let a = c.args in
    let q = told-8 a.kind a.file.now a.room.now (good _ c.in_ok-read_as.ensures) (rw (c.of.ensures, c.data_count.ensures) at c.if-room-size.true) in
    record {
      value = q.0;
      room_after = q.1;
    }

pub store-requires : goal.store-requires
store-requires c = rw (c.of.ensures, c.data_count.ensures) at c.if-room-size.false

pub returns : goal.returns
returns c =
    let a = c.args in
    let q = told-good a.kind a.file.now a.room.now (good _ c.in_ok-read_as.ensures) _ (rw (c.of.ensures, c.data_count.ensures) at c.if-room-size.false) c.store.ensures in
    rw (c.of.ensures, c.data_count.ensures) (record {
      value = q.0;
      room_after = q.1;
    })
