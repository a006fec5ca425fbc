-- What follows items 1 to 3 of the record, where there is one.
use mathlib.Core.Path.{sym, ◌∙◌}
use native.Mathlib.Omega.{arith}
use Rattle.builder.proofs.Sizes.{body-size}
use Rattle.writer.specs.Apart.{body_at}
use Rattle.apart.proofs.Bodies.{body_is, body-none}
use Rattle.apart.proofs.taking.body.Goals as goal

pub returns-then-data_count-i : goal.returns-then-data_count-i
returns-then-data_count-i c =
    let a = c.args in
    sym (body-none a.kind a.file.now a.i (rw c.data_count.ensures at c.if-data_count-i.true))

pub part-requires : goal.part-requires
part-requires c = rw c.of.ensures (omega (arith, body-size c.args.kind, c.record_of-rec.ensures.result_len))

pub returns : goal.returns
unfolding body_at
returns c =
    let a = c.args in
    let l = rw c.data_count.ensures at c.if-data_count-i.false in
    (c.part.ensures.result_value ∙ rw (c.of.ensures, c.record_of-rec.ensures.result_value)) ∙ sym (body_is a.kind a.file.now a.i l)
