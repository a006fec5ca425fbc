-- Body after body, each where the lengths before it end.
use mathlib.Core.Path.{◌≡◌}
use Rattle.laws.specs.Sum.{sum}
use Rattle.answers.proofs.Refusals.{So-far}
use Rattle.keys.specs.Keyed.{key_of}
use Rattle.day.specs.Bodies.{size_at, body_told_at}
use Rattle.day.proofs.bodies.bodies_tell.Given as goal

abbrev pub invariant-loop-i : goal.invariant-loop-i
invariant-loop-i l = (l.at ≡ sum (size_at l.lengths) l.i) × So-far (body_told_at (key_of l.names) (size_at l.lengths) l.bodies) l.i
