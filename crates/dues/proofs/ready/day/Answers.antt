-- The header, then its date.
use Rattle.dues.specs.Posting.{day_of}
use Rattle.tables.proofs.Tiling.{size-least}
use native.Mathlib.Omega.{arith}
use mathlib.Core.Path.{◌∙◌}
use Rattle.dues.proofs.ready.day.Goals as goal

pub record_of-header-requires : goal.record_of-header-requires
record_of-header-requires c = rw c.request_kind.ensures c.requires

pub part-requires : goal.part-requires
part-requires c = rw c.record_of-header.ensures.result_len (omega (arith, size-least c.request_kind.result))

pub returns : goal.returns
unfolding day_of
returns c =
    record {
      result_value = c.part.ensures.result_value ∙ rw (c.record_of-header.ensures.result_value, c.request_kind.ensures);
      result_len = c.part.ensures.result_len;
    }
