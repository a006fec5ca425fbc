-- The first block against the header's rows.
use native.Mathlib.Omega.{arith}
use Rattle.evidence.specs.Judged.{header_told}
use Rattle.evidence.proofs.Rows.{header-fits, table-serves}
use Rattle.evidence.proofs.judged.header_tells.Goals as goal

pub judge_rows-requires : goal.judge_rows-requires
judge_rows-requires c =
    let l = c.block-header.ensures.result_len in
    let q = table-serves 1024 _ _ c.header_rows.ensures header-fits _ _ (omega (arith, l)) (omega (arith, l)) in
    record {
      by_index = q.of_rec;
      by_index_2 = q.of_header;
      in_bounds = q.rec_long;
      in_bounds_2 = q.header_long;
    }

pub returns : goal.returns
unfolding header_told
returns c = rw (← c.block-header.ensures.result_value, ← c.header_rows.ensures) c.judge_rows.ensures
