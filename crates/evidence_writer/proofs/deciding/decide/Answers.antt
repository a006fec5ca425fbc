-- Stage by stage; the header that is judged is the one that would be written.
use Rattle.std.specs.Prelude.{Err}
use borrow.Author.Rules.{rules}
use lib.ListN.{replicate}
use mathlib.Core.Path.{◌≡◌, refl}
use native.Mathlib.Omega.{arith}
use Rattle.answers.proofs.Tellings.{first, next, good}
use Rattle.evidence_builder.specs.Units.{units_in}
use Rattle.evidence_writer.specs.Writing.{decided}
use Rattle.evidence_writer.proofs.Decides.{parts-good}
use Rattle.evidence_writer.proofs.Stored.{header-stored}
use Rattle.evidence_writer.proofs.deciding.decide.Goals as goal

pub returns-in_err-parts_tell-clause-answer_value : goal.returns-in_err-parts_tell-clause-answer_value
unfolding decided
returns-in_err-parts_tell-clause-answer_value c =
    let e : c.from_residual.result ≡ Err c.in_err-parts_tell.field-0.0 = search rules in
    rw e (first _ _ _ c.in_err-parts_tell.ensures)

pub put_header-requires : goal.put_header-requires
put_header-requires c =
    let long = parts-good _ _ (good _ c.in_ok-parts_tell.ensures) in
    record {
      date_len = long.0;
      code_len = long.1;
      in_bounds = omega arith;
    }

pub returns-in_err-header_tells-clause-answer_value : goal.returns-in_err-header_tells-clause-answer_value
unfolding decided
returns-in_err-header_tells-clause-answer_value c =
    let a = c.args in
    let long = parts-good _ _ (good _ c.in_ok-parts_tell.ensures) in
    let built = header-stored a.date.now a.code.now (replicate 1024 0) c.put_header.new.room c.count.result (units_in a.x.now) long.0 long.1 refl c.count.ensures c.put_header.ensures in
    let e : c.from_residual-in_err-header_tells.result ≡ Err c.in_err-header_tells.field-0.0 = search rules in
    rw e (next _ _ _ c.in_ok-parts_tell.ensures (first _ _ _ (rw built at c.in_err-header_tells.ensures)))

pub invariant_of-by-clause-code_len : goal.invariant_of-by-clause-code_len
invariant_of-by-clause-code_len c = (parts-good _ _ (good _ c.in_ok-parts_tell.ensures)).1

pub returns-clause-answer_value : goal.returns-clause-answer_value
unfolding decided
returns-clause-answer_value c =
    let a = c.args in
    let long = parts-good _ _ (good _ c.in_ok-parts_tell.ensures) in
    let built = header-stored a.date.now a.code.now (replicate 1024 0) c.put_header.new.room c.count.result (units_in a.x.now) long.0 long.1 refl c.count.ensures c.put_header.ensures in
    next _ _ _ c.in_ok-parts_tell.ensures (next _ _ _ (rw built at c.in_ok-header_tells.ensures) (rw built at c.decide_units.ensures.answer_value))
