-- Whole first, then not too many.
use Rattle.records.proofs.Places.{size-pos}
use Rattle.reader.specs.Reading.{length_tells}
use borrow.Author.Tests.{le-leb, lt-leb}
use Rattle.reader.proofs.reading.length_tells.Goals as goal

pub nonzero_div-length : goal.nonzero_div-length
nonzero_div-length c = rw c.of.ensures (size-pos c.args.kind)

pub returns-then-not-is_whole : goal.returns-then-not-is_whole
unfolding length_tells
returns-then-not-is_whole c = rw (← c.is_whole.ensures, c.if-not-is_whole.true)

pub returns-then-length-of : goal.returns-then-length-of
unfolding length_tells
returns-then-length-of c = rw (← c.is_whole.ensures, c.if-not-is_whole.false, ← c.of.ensures, lt-leb _ _ c.if-length-of.true)

pub returns : goal.returns
unfolding length_tells
returns c = rw (← c.is_whole.ensures, c.if-not-is_whole.false, ← c.of.ensures, le-leb _ _ c.if-length-of.false)
