-- The tests in their order.
use mathlib.Core.Path.{sym, ◌∙◌}
use native.Mathlib.Nat.{le_of_eq}
use Rattle.day.proofs.Listed.{list-31, repeated-told, distinct-told}
use Rattle.day.proofs.bodies.counted_tell.Goals as goal

pub returns-then-total-bodies : goal.returns-then-total-bodies
returns-then-total-bodies c = sym (list-31 _ _ _ _ (λ q. c.if-total-bodies.true (c.total.ensures.value ∙ q)))

pub bodies_tell-requires : goal.bodies_tell-requires
bodies_tell-requires c =
    record {
      few = c.requires.few;
      one_each = c.requires.one_each;
      n_in_bounds = le_of_eq (sym c.total.ensures.value ∙ c.if-total-bodies.false);
    }

pub returns-in-Some : goal.returns-in-Some
returns-in-Some c =
    let all = sym c.total.ensures.value ∙ c.if-total-bodies.false in
    sym (repeated-told _ _ _ _ all _ c.requires.one_each _ (sym c.in-Some.is ∙ c.first_repeat.ensures))

pub returns : goal.returns
returns c =
    let all = sym c.total.ensures.value ∙ c.if-total-bodies.false in
    c.bodies_tell.ensures ∙ sym (distinct-told _ _ _ _ all _ c.requires.one_each (sym c.in_default.is ∙ c.first_repeat.ensures))
