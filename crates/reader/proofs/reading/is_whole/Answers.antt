-- The two tests, in their order.
use Rattle.records.proofs.Places.{size-pos}
use Rattle.reader.specs.Reading.{is_whole}
use borrow.Author.Tests.{eq-eqb, ne_eqb}
use Rattle.reader.proofs.reading.is_whole.Goals as goal

pub nonzero_rem-length : goal.nonzero_rem-length
nonzero_rem-length c = rw c.of-size.ensures (size-pos c.args.kind)

pub nonzero_div-result : goal.nonzero_div-result
nonzero_div-result c = rw c.of-size.ensures (size-pos c.args.kind)

pub returns-then-length-size-eq0 : goal.returns-then-length-size-eq0
unfolding is_whole
returns-then-length-size-eq0 c = rw (← c.of-size.ensures, eq-eqb _ 0 c.if-length-size-eq0.true)

pub returns-else-length-size-eq0 : goal.returns-else-length-size-eq0
unfolding is_whole
returns-else-length-size-eq0 c = rw (← c.of-size.ensures, ne_eqb _ 0 c.if-length-size-eq0.false)
