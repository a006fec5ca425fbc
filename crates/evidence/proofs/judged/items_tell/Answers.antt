-- The front of the block against the record's rows.
use native.Mathlib.Omega.{arith}
use Rattle.evidence.specs.Judged.{items_told}
use Rattle.evidence.proofs.Rows.{data-fits, table-serves}
use Rattle.evidence.proofs.Walks.{block_inside}
use Rattle.evidence.proofs.judged.items_tell.Goals as goal

pub overflow_mul-b : goal.overflow_mul-b
overflow_mul-b c = omega (arith, block_inside c.args.file.now c.args.b c.requires)

pub part-front-requires : goal.part-front-requires
part-front-requires c = omega (arith, block_inside c.args.file.now c.args.b c.requires)

pub judge_rows-requires : goal.judge_rows-requires
judge_rows-requires c =
    let q = table-serves 119 _ _ c.data_rows.ensures (data-fits c.args.exempt) _ _ (omega (arith, c.part-front.ensures.result_len)) (omega (arith, c.block-header.ensures.result_len)) in
    record {
      by_index = q.of_rec;
      by_index_2 = q.of_header;
      in_bounds = q.rec_long;
      in_bounds_2 = q.header_long;
    }

pub returns : goal.returns
unfolding items_told
returns c = rw (← c.part-front.ensures.result_value, ← c.block-header.ensures.result_value, ← c.data_rows.ensures) c.judge_rows.ensures
