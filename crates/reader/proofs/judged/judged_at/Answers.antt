-- The record in its role, against the header.
use Rattle.reader.specs.Judged.{judged_at}
use Rattle.reader.proofs.judged.judged_at.Goals as goal

pub judge-requires : goal.judge-requires
judge-requires c =
    record {
      rec_len = c.record_of.ensures.result_len;
      header_len = c.record_of-2.ensures.result_len;
    }

pub returns : goal.returns
unfolding judged_at
returns c =
    rw (
      ← c.count.ensures,
      ← c.role_of-role.ensures,
      ← c.record_of.ensures.result_value,
      ← c.record_of-2.ensures.result_value,
    ) c.judge.ensures
