-- One byte after the other.
use Rattle.std.proofs.Common.{◌≡◌, refl, get_or, arith}
use lib.ListN.{length-set}
use lib.Seq.{paste-zero}
use Rattle.laws.proofs.Stores.{paste_more, paste_all}
use Rattle.builder.specs.Bytes.{written}
use Rattle.builder.specs.Records.{given, header_fill}
use Rattle.builder.proofs.Laying.{written-length, written-at, written-place}
use Rattle.builder.proofs.building.put_header_row.Goals as goal

pub loop-d-init : goal.loop-d-init
loop-d-init c =
    let a = c.args in
    (paste-zero a.rec.now a.row.1 (written (header_fill a.kind (given a.head)) a.row), refl)

pub loop-d-preserved : goal.loop-d-preserved
unfolding header_fill
loop-d-preserved c =
    let a = c.args in
    let l = c.loop-d in
    let f = header_fill a.kind (given a.head) in
    let long = written-length f a.row in
    let inside = c.loop-d-test.true in
    let value : c.fill.result ≡ get_or (written f a.row) l.d 0 = rw (written-at f a.row l.d inside, written-place, ← c.given_item-theirs.ensures, ← c.byte-given.ensures.value, ← c.letter-letter.ensures) c.fill.ensures in
    (paste_more a.rec.now (written f a.row) l.rec a.row.1 l.d c.fill.result l.invariant.0 value (omega arith) (omega (arith, long, inside)), simp length-set l.invariant.1)

pub returns : goal.returns
returns c =
    let a = c.args in
    let l = c.loop-d in
    let f = header_fill a.kind (given a.head) in
    paste_all a.rec.now (written f a.row) l.rec a.row.1 l.d l.invariant.0 (omega (arith, written-length f a.row))
