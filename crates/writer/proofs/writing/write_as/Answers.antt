-- Refusals first, then the answer of reading; only what is accepted is stored.
use Rattle.std.specs.Prelude.{Err}
use Rattle.answers.specs.declared.refusing.Refusal.TheVariants.{Length, TooMany, ShortRoom}
use Rattle.builder.specs.Records.{given, body_count}
use Rattle.writer.proofs.Written.{write-2, write-3, write-8, write_read, room-kept, room-filled}
use borrow.Author.Rules.{rules}
use mathlib.Core.Path.{◌≡◌, sym, ◌∙◌}
use Rattle.writer.proofs.writing.write_as.Goals as goal

pub returns-then-not-parts_fit : goal.returns-then-not-parts_fit
returns-then-not-parts_fit c =
    let a = c.args in
    let h = given a.head in
    let fits = rw c.of-fixed.ensures at c.parts_fit.ensures in
    let told = sym (write-2 a.kind h a.bodies.now a.room.now (sym fits ∙ c.if-not-parts_fit.true)) in
    record {
      value = told;
      room_after = room-kept a.kind h a.bodies.now a.room.now Length told;
    }

pub returns-then-n-gt-LIMIT : goal.returns-then-n-gt-LIMIT
unfolding body_count
returns-then-n-gt-LIMIT c =
    let a = c.args in
    let h = given a.head in
    let fits = rw c.of-fixed.ensures at c.parts_fit.ensures in
    let told = sym (write-3 a.kind h a.bodies.now a.room.now (sym fits ∙ c.if-not-parts_fit.false) (rw c.of-fixed.ensures at c.if-n-gt-LIMIT.true)) in
    record {
      value = told;
      room_after = room-kept a.kind h a.bodies.now a.room.now TooMany told;
    }

pub returns-then-room-n : goal.returns-then-room-n
unfolding body_count
returns-then-room-n c =
    let a = c.args in
    let h = given a.head in
    let fits = rw c.of-fixed.ensures at c.parts_fit.ensures in
    let told =
    sym (write-8 a.kind h a.bodies.now a.room.now (sym fits ∙ c.if-not-parts_fit.false) (rw c.of-fixed.ensures at c.if-n-gt-LIMIT.false)
    (rw c.of-fixed.ensures at c.if-room-n.true)) in
    record {
      value = told;
      room_after = room-kept a.kind h a.bodies.now a.room.now ShortRoom told;
    }

pub judge-requires-clause-n_value : goal.judge-requires-clause-n_value
unfolding body_count
judge-requires-clause-n_value c = rw c.of-fixed.ensures

pub returns-in_err-judge : goal.returns-in_err-judge
unfolding body_count
returns-in_err-judge c =
    let a = c.args in
    let h = given a.head in
    let fits = rw c.of-fixed.ensures at c.parts_fit.ensures in
    let read =
    write_read a.kind h a.bodies.now a.room.now (sym fits ∙ c.if-not-parts_fit.false) (rw c.of-fixed.ensures at c.if-n-gt-LIMIT.false)
    (rw c.of-fixed.ensures at c.if-room-n.false) in
    let told = c.in_err-judge.ensures ∙ sym read in
    let e : c.from_residual.result ≡ Err c.in_err-judge.field-0.0 = search rules in
    rw e (record {
      value = told;
      room_after = room-kept a.kind h a.bodies.now a.room.now c.in_err-judge.field-0.0 told;
    })

pub put-requires-clause-n_value : goal.put-requires-clause-n_value
unfolding body_count
put-requires-clause-n_value c = rw c.of-fixed.ensures

pub returns : goal.returns
unfolding body_count
returns c =
    let a = c.args in
    let h = given a.head in
    let fits = rw c.of-fixed.ensures at c.parts_fit.ensures in
    let read =
    write_read a.kind h a.bodies.now a.room.now (sym fits ∙ c.if-not-parts_fit.false) (rw c.of-fixed.ensures at c.if-n-gt-LIMIT.false)
    (rw c.of-fixed.ensures at c.if-room-n.false) in
    let told = c.in_ok-judge.ensures ∙ sym read in
    record {
      value = told;
      room_after = room-filled a.kind h a.bodies.now a.room.now _ told (rw c.of-fixed.ensures at c.put.ensures);
    }
