-- What the record adds.
use Rattle.tables.proofs.Tiling.{size-least}
use Rattle.records.proofs.Places.{count_small}
use Rattle.records.specs.Quantities.{worth_at}
use borrow.Author.Rules.{rules}
use native.Mathlib.Omega.{arith}
use Rattle.records.proofs.quantities.worth_at.Goals as goal

pub overflow_add-i : goal.overflow_add-i
overflow_add-i c =
    let a = c.args in
    omega (arith, count_small a.kind a.file.now)

pub worth-requires : goal.worth-requires
worth-requires c = omega (arith, size-least c.args.kind, c.record_of.ensures.result_len)

pub returns : goal.returns
unfolding worth_at
returns c = search rules
