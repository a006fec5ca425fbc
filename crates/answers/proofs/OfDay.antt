-- The laws of refusals of a day.
-- Assumes nothing.
use mathlib.Core.Bool.{true, false}
use mathlib.Core.Path.{◌≡◌, ap}
use borrow.Author.Tests.{not-false, not-true, eqb-true, eqb-false, eq-eqb, ne_eqb}
use Rattle.answers.specs.declared.of_day.DayAnswer.{DayAnswer}
use Rattle.answers.specs.OfDay.{day_refuses}

-- equal answers have the same number
abbrev pub day-number : {a b : DayAnswer} → a ≡ b → a.number ≡ b.number
day-number e = ap (λ (x : DayAnswer). x.number) e

-- an answer with number 0 is no refusal, any other is one
pub day-not : (a : DayAnswer) → a.number ≡ 0 → day_refuses a ≡ false
unfolding day_refuses
day-not a e = rw (eq-eqb a.number 0 e)

pub day-is : (a : DayAnswer) → (a.number ≡ 0 → ⊥) → day_refuses a ≡ true
unfolding day_refuses
day-is a ne = rw (ne_eqb a.number 0 ne)

pub day-zero : (a : DayAnswer) → day_refuses a ≡ false → a.number ≡ 0
unfolding day_refuses
day-zero a f = eqb-true a.number 0 (not-false _ f)

pub day-other : (a : DayAnswer) → day_refuses a ≡ true → a.number ≡ 0 → ⊥
unfolding day_refuses
day-other a t = eqb-false a.number 0 (not-true _ t)
