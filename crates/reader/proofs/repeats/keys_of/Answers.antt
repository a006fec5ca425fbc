-- Each lies within its record.
use Rattle.reader.proofs.Places.{key_fits}
use native.Mathlib.Omega.{arith}
use Rattle.reader.proofs.repeats.keys_of.Goals as goal

pub invariant_of-result : goal.invariant_of-result
invariant_of-result c =
    rw (c.spacing.ensures, c.data_count.ensures) (record { inside = key_fits c.args.kind c.args.file.now _ (omega (arith, c.requires)) })
