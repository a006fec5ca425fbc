-- The front of the record is built, and judged by its rows.
use lib.ListN.{replicate}
use mathlib.Core.Path.{◌≡◌, refl}
use native.Mathlib.Omega.{arith}
use Rattle.laws.specs.Part.{part}
use Rattle.laws.specs.Stored.{stored}
use Rattle.evidence_units.specs.Units.{items}
use Rattle.evidence.proofs.Rows.{data-fits, table-serves}
use Rattle.evidence_writer.specs.Writing.{items_told}
use Rattle.evidence_writer.proofs.Stored.{items-stored, items-fill}
use Rattle.evidence_writer.proofs.units_tell.items_tell.Goals as goal

pub judge_rows-requires : goal.judge_rows-requires
judge_rows-requires c =
    let a = c.args in
    let behind : c.put.new.room ≡ stored 45 (part a.p items a.x.now) c.put_front.new.room = rw (← c.part.ensures.result_value) c.put.ensures in
    let long = items-fill a.by.code.now a.x.now (replicate 119 0) c.put_front.new.room c.put.new.room a.p a.n c.args.by.code_len c.requires refl c.put_front.ensures behind in
    let q = table-serves 119 _ _ c.data_rows.ensures (data-fits a.by.exempt) c.put.new.room a.by.header.now (omega (arith, long)) (omega (arith, c.args.by.header_len)) in
    record {
      by_index = q.of_rec;
      by_index_2 = q.of_header;
      in_bounds = q.rec_long;
      in_bounds_2 = q.header_long;
    }

pub returns : goal.returns
unfolding items_told
returns c =
    let a = c.args in
    let behind : c.put.new.room ≡ stored 45 (part a.p items a.x.now) c.put_front.new.room = rw (← c.part.ensures.result_value) c.put.ensures in
    rw (← items-stored a.by.code.now a.x.now (replicate 119 0) c.put_front.new.room c.put.new.room a.p a.n c.args.by.code_len c.requires refl c.put_front.ensures behind, ← c.data_rows.ensures)
    c.judge_rows.ensures
