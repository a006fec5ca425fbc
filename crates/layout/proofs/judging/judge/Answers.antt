-- The rows of the kind tell what they tell.
use Rattle.layout.proofs.Judged.{rows-judged, rows-tell}
use mathlib.Core.Path.{◌∙◌}
use Rattle.layout.proofs.judging.judge.Goals as goal

pub judge_rows-requires : goal.judge_rows-requires
judge_rows-requires c =
    let q = rows-judged c.args.kind c.args.role c.rows_of.result.now c.rows_of.ensures c.args.rec.now c.args.header.now c.requires.rec_len c.requires.header_len in
    record {
      by_index = q.0;
      by_index_2 = q.1.0;
      in_bounds = q.1.1.0;
      in_bounds_2 = q.1.1.1;
    }

pub returns : goal.returns
returns c =
    let a = c.args in
    c.judge_rows.ensures ∙ rows-tell a.kind a.role c.rows_of.result.now c.rows_of.ensures _ _ _
