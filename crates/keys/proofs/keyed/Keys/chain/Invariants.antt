-- One key after the other.
use Rattle.keys.specs.Chains.{links_of}
use Rattle.keys.specs.Keyed.{key_of}
use mathlib.Core.Path.{◌≡◌}
use Rattle.keys.proofs.keyed.Keys.chain.Given as goal

abbrev pub invariant-loop-i : goal.invariant-loop-i
invariant-loop-i l = l.links ≡ links_of (key_of l.self) l.i l.initial.links
