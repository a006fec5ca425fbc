-- The file's length by the record's size.
use Rattle.records.proofs.Places.{size-pos}
use Rattle.records.specs.Records.{count_of}
use Rattle.records.proofs.listed.count.Goals as goal

pub nonzero_div-result : goal.nonzero_div-result
nonzero_div-result c = rw c.of.ensures (size-pos c.args.kind)

pub returns : goal.returns
unfolding count_of
returns c = rw c.of.ensures
