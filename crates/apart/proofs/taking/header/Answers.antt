-- The first bytes of the file.
use mathlib.Core.Path.{◌∙◌}
use native.Mathlib.Nat.{zero-mul}
use Rattle.records.specs.Records.{record_at}
use Rattle.apart.proofs.taking.header.Goals as goal

pub returns : goal.returns
unfolding record_at
returns c = c.part_of.ensures ∙ rw (c.size_of.ensures, zero-mul)
