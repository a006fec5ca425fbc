-- One byte after the other.
use Rattle.std.proofs.Common.{◌≡◌, ◌∙◌, sym, refl, ◌+◌, get_or, arith}
use lib.ListN.{length-set}
use lib.Seq.{paste-zero}
use Rattle.laws.proofs.Stores.{paste_more, paste_all}
use Rattle.builder.specs.Bytes.{written}
use Rattle.builder.specs.Records.{trailer_by}
use Rattle.builder.proofs.Laying.{written-length, written-at}
use Rattle.builder.proofs.building.put_trailer_row.Goals as goal

pub loop-d-init : goal.loop-d-init
loop-d-init c =
    let a = c.args in
    (paste-zero a.rec.now a.row.1 (written (trailer_by a.kind a.header.now a.sums) a.row), refl)

pub loop-d-preserved : goal.loop-d-preserved
loop-d-preserved c =
    let a = c.args in
    let l = c.loop-d in
    let f = trailer_by a.kind a.header.now a.sums in
    let long = written-length f a.row in
    let inside = c.loop-d-test.true in
    let value : c.trailer_byte.result ≡ get_or (written f a.row) l.d 0 = c.trailer_byte.ensures ∙ (c.total_said-total.ensures a.header.now (a.row.1 + l.d) ∙ sym (written-at f a.row l.d inside)) in
    (paste_more a.rec.now (written f a.row) l.rec a.row.1 l.d c.trailer_byte.result l.invariant.0 value (omega arith) (omega (arith, long, inside)), simp length-set l.invariant.1)

pub returns : goal.returns
returns c =
    let a = c.args in
    let l = c.loop-d in
    let f = trailer_by a.kind a.header.now a.sums in
    paste_all a.rec.now (written f a.row) l.rec a.row.1 l.d l.invariant.0 (omega (arith, written-length f a.row))
