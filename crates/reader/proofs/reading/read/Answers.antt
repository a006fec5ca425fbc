-- The kind first.
use Rattle.reader.specs.Reading.{read_of}
use Rattle.reader.proofs.reading.read.Goals as goal

pub returns-in_default : goal.returns-in_default
unfolding read_of
returns-in_default c = rw (← c.kind_of.ensures, c.in_default.is)

pub returns : goal.returns
unfolding read_of
returns c = rw (← c.kind_of.ensures, c.in-Some.is) c.read_as.ensures
