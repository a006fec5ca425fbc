-- The numbers of an outcome and of a step, one by one.
-- Assumes nothing.
use mathlib.Core.List.{[], ◌∷◌}
use mathlib.Core.Path.{◌≡◌, refl}
use lib.ListN.{get_or}
use Rattle.outcomes.specs.declared.cases.Outcome.{Outcome}
use Rattle.outcomes.specs.declared.cases.Outcome.TheVariants as outcome
use Rattle.outcomes.specs.Outcomes.{numbers_of}
use Rattle.walker.specs.Steps.{Step}
use Rattle.walker.specs.Walks.{three_of}

pub five-of :
    (o : Outcome) →
    get_or (numbers_of o) 0 0 ∷ get_or (numbers_of o) 1 0 ∷ get_or (numbers_of o) 2 0 ∷ get_or (numbers_of o) 3 0 ∷ get_or (numbers_of o) 4 0 ∷ [] ≡ numbers_of o
five-of outcome.None = refl
five-of (outcome.Whole taken) = refl
five-of (outcome.Part taken notTaken code maker) = refl
five-of (outcome.Refused notTaken code maker) = refl

pub three-of : (s : Step) → get_or (three_of s) 0 0 ∷ get_or (three_of s) 1 0 ∷ get_or (three_of s) 2 0 ∷ [] ≡ three_of s
three-of Step.None = refl
three-of (Step.Record number start size) = refl
three-of Step.End = refl
