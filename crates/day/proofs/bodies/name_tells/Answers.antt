-- Item 4 of the header beside the name.
use mathlib.Core.Path.{sym, ◌∙◌}
use borrow.Author.Tests.{not-false, not-true}
use Rattle.laws.proofs.Positions.{same_pointwise}
use Rattle.day.specs.Bodies.{name_told}
use Rattle.day.proofs.bodies.name_tells.Goals as goal

pub returns-then-ne : goal.returns-then-ne
unfolding name_told
returns-then-ne c = rw (← c.part.ensures.result_value, ← same_pointwise c.part.result.now c.args.name.now, not-true _ (sym c.ne.ensures ∙ c.if-ne.true))

pub returns : goal.returns
unfolding name_told
returns c = rw (← c.part.ensures.result_value, ← same_pointwise c.part.result.now c.args.name.now, not-false _ (sym c.ne.ensures ∙ c.if-ne.false))
