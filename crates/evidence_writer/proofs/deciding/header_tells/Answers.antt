-- The header against its rows.
use native.Mathlib.Omega.{arith}
use Rattle.evidence.proofs.Rows.{header-fits, table-serves}
use Rattle.evidence_writer.specs.Writing.{header_told}
use Rattle.evidence_writer.proofs.deciding.header_tells.Goals as goal

pub judge_rows-requires : goal.judge_rows-requires
judge_rows-requires c =
    let q = table-serves 1024 _ _ c.header_rows.ensures header-fits _ _ (omega (arith, c.requires)) (omega (arith, c.requires)) in
    record {
      by_index = q.of_rec;
      by_index_2 = q.of_header;
      in_bounds = q.rec_long;
      in_bounds_2 = q.header_long;
    }

pub returns : goal.returns
unfolding header_told
returns c = rw (← c.header_rows.ensures) c.judge_rows.ensures
