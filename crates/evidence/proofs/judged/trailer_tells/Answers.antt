-- The last block against the trailer's rows.
use native.Mathlib.Omega.{arith}
use Rattle.evidence.specs.Judged.{trailer_told}
use Rattle.evidence.proofs.Rows.{trailer-fits, table-serves}
use Rattle.evidence.proofs.judged.trailer_tells.Goals as goal

pub judge_rows-requires : goal.judge_rows-requires
judge_rows-requires c =
    let q = table-serves 1024 _ _ c.trailer_rows.ensures trailer-fits _ _ (omega (arith, c.block-trailer.ensures.result_len)) (omega (arith, c.block-header.ensures.result_len)) in
    record {
      by_index = q.of_rec;
      by_index_2 = q.of_header;
      in_bounds = q.rec_long;
      in_bounds_2 = q.header_long;
    }

pub returns : goal.returns
unfolding trailer_told
returns c =
    rw (
      ← c.count.ensures,
      ← c.requires.n_value,
      ← c.block-trailer.ensures.result_value,
      ← c.block-header.ensures.result_value,
      ← c.trailer_rows.ensures,
    ) c.judge_rows.ensures
