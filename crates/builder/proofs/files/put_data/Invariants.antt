-- One record after the other.
use Rattle.builder.proofs.Built.{filled}
use mathlib.Core.Path.{◌≡◌}
use Rattle.builder.proofs.files.put_data.Given as goal

abbrev pub invariant-loop-i : goal.invariant-loop-i
invariant-loop-i l = l.file ≡ filled l.kind l.bodies l.initial.file l.i
