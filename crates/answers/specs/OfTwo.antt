-- What is told of two files that belong together, and of two results of one request.
use Rattle.std.specs.Prelude.{ℕ, ◌+◌, Option, Some, None, Result, Ok, Err}
use Rattle.answers.specs.declared.told.Answer.{Answer}
use Rattle.answers.specs.declared.of_two.OfTwo.{OfTwo}
use Rattle.answers.specs.declared.of_two.OfTwo.TheVariants.{Both, First, Second}
use Rattle.answers.specs.declared.of_two.OfResults.{OfResults}
use Rattle.answers.specs.declared.of_two.OfResults.TheVariants.{WithFirst, WithSecond}
use Rattle.answers.specs.Answers.{accepted, on_side}
use Rattle.answers.specs.Refusing.{told_by}

abbrev pub told_of_two : OfTwo → Answer
told_of_two (Both r) = told_by r
told_of_two (First r) = on_side 1 (told_by r)
told_of_two (Second r) = on_side 2 (told_by r)

-- what is told of a result of any kind
abbrev pub answer_of_two : {A : Type 0} → Result A OfTwo → Answer
answer_of_two (Ok a) = accepted
answer_of_two (Err r) = told_of_two r

-- an answer about two results of one request: where it is a refusal, which of them it is about; where it is none, the first
-- request, from 1 on, in which they differ. Each is 0 where there is none.
pub record Story : Type 0 where
  pub answer : Answer
  pub which : ℕ
  pub request : ℕ

-- request i + 1, or none
abbrev pub request_by : Option ℕ → ℕ
request_by (Some i) = i + 1
request_by None = 0

abbrev pub refused_story : OfResults → Story
refused_story (WithFirst r) = record { answer = told_of_two r; which = 1; request = 0 }
refused_story (WithSecond r) = record { answer = told_of_two r; which = 2; request = 0 }

abbrev pub story_by : Result (Option ℕ) OfResults → Story
story_by (Ok request) = record { answer = accepted; which = 0; request = request_by request }
story_by (Err r) = refused_story r
