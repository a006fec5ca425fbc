-- The trailer's item against the quantity.
use Rattle.tables.proofs.Tiling.{size-least}
use Rattle.reader.specs.Totals.{total_holds}
use native.Mathlib.Omega.{arith}
use Rattle.reader.proofs.totals.total_holds.Goals as goal

pub part-item-requires : goal.part-item-requires
part-item-requires c = omega (arith, c.record_of-trailer.ensures.result_len, size-least c.args.kind)

pub returns : goal.returns
unfolding total_holds
returns c =
    rw (
      ← c.count.ensures,
      ← c.record_of-trailer.ensures.result_value,
      ← c.part-item.ensures.result_value,
      ← c.quantity_of.ensures,
    ) c.says.ensures
