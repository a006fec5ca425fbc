-- The loop looks for the first item that differs.
use Rattle.std.specs.Prelude.{ℕ}
use Rattle.answers.proofs.Refusals.{So-far}
use Rattle.agreement.specs.Items.{item_tells}
use Rattle.agreement.proofs.items.first_differing.Given as goal

abbrev pub invariant-loop-item : goal.invariant-loop-item
invariant-loop-item l = (number rec : ℕ) → So-far (item_tells number rec l.items l.a l.b) l.item-index
