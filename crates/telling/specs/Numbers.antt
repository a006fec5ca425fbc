-- Answers as numbers: side, number, record, item, code; then what storing, two results, an outcome, a step or a part says.
use Rattle.std.specs.Prelude.{ℕ, List, [], ◌∷◌, ◌++◌}
use Rattle.answers.specs.declared.told.Answer.{Answer}
use Rattle.answers.specs.Storing.{Stored}
use Rattle.answers.specs.OfTwo.{Story}
use Rattle.answers.specs.Lying.{Lies, case_of, first_of, size_of}
use Rattle.answers.specs.declared.of_day.DayAnswer.{DayAnswer}
use Rattle.answers.specs.OfDay.{DayTold, DayShown}
use Rattle.outcomes.specs.declared.cases.Told.{Told}
use Rattle.outcomes.specs.Outcomes.{numbers_of}
use Rattle.walker.specs.Steps.{Walked}
use Rattle.walker.specs.Walks.{three_of}
use Rattle.evidence.specs.Lying.{Shown}

abbrev pub five : Answer → List ℕ
five a = a.side ∷ a.number ∷ a.rec ∷ a.item ∷ a.code ∷ []

-- how many bytes were stored follows
abbrev pub six : Stored → List ℕ
six s = five s.answer ++ (s.size ∷ [])

-- which of two results, and which request, follow
abbrev pub story_seven : Story → List ℕ
story_seven s = five s.answer ++ (s.which ∷ s.request ∷ [])

-- an outcome's case, taken, not taken, code and maker follow
abbrev pub ten : Told → List ℕ
ten t = five t.answer ++ numbers_of t.outcome

-- a step's case, first byte and length follow
abbrev pub eight : Walked → List ℕ
eight w = five w.answer ++ three_of w.step

-- a part's case, first byte and length follow
abbrev pub three_for : Lies → List ℕ
three_for l = case_of l ∷ first_of l ∷ size_of l ∷ []

abbrev pub eight_for : Shown → List ℕ
eight_for s = five s.answer ++ three_for s.lies

-- a day's own number, which body, and that body's five
abbrev pub seven : DayAnswer → List ℕ
seven a = a.number ∷ a.body ∷ five a.answer

-- how many bodies, or how many bytes were stored, follows
abbrev pub day_eight : DayTold → List ℕ
day_eight t = seven t.answer ++ (t.count ∷ [])

-- a body's case, first byte and length follow
abbrev pub day_ten : DayShown → List ℕ
day_ten s = seven s.answer ++ three_for s.lies
