-- Stage by stage, as reading the file to be written says.
use Rattle.std.specs.Prelude.{Err}
use Rattle.answers.proofs.Tellings.{first, next}
use Rattle.builder.specs.Records.{given}
use Rattle.writer.proofs.Decided.{stages}
use borrow.Author.Rules.{rules}
use mathlib.Core.Path.{◌≡◌, refl}
use Rattle.writer.proofs.deciding.judge.Goals as goal

pub returns-in_err-header_tells : goal.returns-in_err-header_tells
returns-in_err-header_tells c =
    let a = c.args in
    let all = stages a.kind (given a.head) a.bodies.now a.n c.requires.n_value c.requires.n_le_limit _ refl _ refl _ refl in
    let e : c.from_residual.result ≡ Err c.in_err-header_tells.field-0.0 = search rules in
    rw (e, all) (first _ _ _ c.in_err-header_tells.ensures.value)

pub returns-in_err-sums : goal.returns-in_err-sums
returns-in_err-sums c =
    let a = c.args in
    let header = c.in_ok-header_tells.ensures in
    let all = stages a.kind (given a.head) a.bodies.now a.n c.requires.n_value c.requires.n_le_limit _ header.frame_after _ refl _ refl in
    let e : c.from_residual-in_err-sums.result ≡ Err c.in_err-sums.field-0.0 = search rules in
    rw (e, all) (next _ _ _ header.value (first _ _ _ c.in_err-sums.ensures.answer_value))

pub returns-in_err-trailer_tells : goal.returns-in_err-trailer_tells
returns-in_err-trailer_tells c =
    let a = c.args in
    let header = c.in_ok-header_tells.ensures in
    let bodies = c.in_ok-sums.ensures in
    let all = stages a.kind (given a.head) a.bodies.now a.n c.requires.n_value c.requires.n_le_limit _ header.frame_after _ bodies.frame_unchanged _ bodies.sums_value in
    let e : c.from_residual-in_err-trailer_tells.result ≡ Err c.in_err-trailer_tells.field-0.0 = search rules in
    rw (e, all) (next _ _ _ header.value (next _ _ _ bodies.answer_value (first _ _ _ c.in_err-trailer_tells.ensures)))

pub returns : goal.returns
returns c =
    let a = c.args in
    let header = c.in_ok-header_tells.ensures in
    let bodies = c.in_ok-sums.ensures in
    let all = stages a.kind (given a.head) a.bodies.now a.n c.requires.n_value c.requires.n_le_limit _ header.frame_after _ bodies.frame_unchanged _ bodies.sums_value in
    rw all (next _ _ _ header.value (next _ _ _ bodies.answer_value (next _ _ _ c.in_ok-trailer_tells.ensures c.keys_tell.ensures)))
