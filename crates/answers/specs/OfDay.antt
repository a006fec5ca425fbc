-- What is told of a day file: a number of its own, which body, and that body's whole answer.
use Rattle.std.specs.Prelude.{ℕ, Option, Result, Ok, Err, Bool, cond, not, eqb}
use Rattle.answers.specs.declared.told.Answer.{Answer}
use Rattle.answers.specs.declared.of_day.DayAnswer.{DayAnswer}
use Rattle.answers.specs.declared.of_day.OfDay.{OfDay}
use Rattle.answers.specs.declared.of_day.OfDay.TheVariants.{Contents, Lengths, SameName, Body, ShortRoom}
use Rattle.answers.specs.declared.lying.Part.{Part}
use Rattle.answers.specs.Lying.{Lies, lies_by}
use Rattle.answers.specs.Refusing.{told_by}
use Rattle.answers.specs.Answers.{accepted}

abbrev pub day_refused_at : ℕ → ℕ → Answer → DayAnswer
day_refused_at number body answer = record { number = number; body = body; answer = answer }

-- a number that means no body; the body's own numbers are then 0 and "0000"
abbrev pub day_refused : ℕ → DayAnswer
day_refused number = day_refused_at number 0 accepted

-- 0: accepted
abbrev pub day_accepted : DayAnswer
day_accepted = day_refused 0

-- 30: form byte, count, digits, or contents cut short
abbrev pub bad_contents : DayAnswer
bad_contents = day_refused 30

-- 31: contents and total length differ
abbrev pub other_length : DayAnswer
other_length = day_refused 31

-- 32: body k has the name of an earlier one
abbrev pub repeated_name : ℕ → DayAnswer
repeated_name k = day_refused_at 32 k accepted

-- 33: body k is refused, with its answer
abbrev pub refused_body : ℕ → Answer → DayAnswer
refused_body k a = day_refused_at 33 k a

-- 8: lent room is too short
abbrev pub short_room : DayAnswer
short_room = day_refused 8

abbrev pub told_of_day : OfDay → DayAnswer
told_of_day Contents = bad_contents
told_of_day Lengths = other_length
told_of_day (SameName k) = repeated_name k
told_of_day (Body k r) = refused_body k (told_by r)
told_of_day ShortRoom = short_room

-- what is told of a result of any kind
abbrev pub day_answer_of : {A : Type 0} → Result A OfDay → DayAnswer
day_answer_of (Ok a) = day_accepted
day_answer_of (Err r) = told_of_day r

-- an answer, and how many bodies the day has or how many bytes were stored; none when refused
pub record DayTold : Type 0 where
  pub answer : DayAnswer
  pub count : ℕ

abbrev pub counted_by : Result ℕ OfDay → DayTold
counted_by (Ok n) = record { answer = day_accepted; count = n }
counted_by (Err r) = record { answer = told_of_day r; count = 0 }

-- an answer, and where a body lies
pub record DayShown : Type 0 where
  pub answer : DayAnswer
  pub lies : Lies

abbrev pub shown_by : Result (Option Part) OfDay → DayShown
shown_by r = record { answer = day_answer_of r; lies = lies_by r }

-- the answer is a refusal
unfoldable pub day_refuses : DayAnswer → Bool
day_refuses a = not (eqb a.number 0)

-- an answer with how many; none when refused
abbrev pub counting : DayAnswer → ℕ → DayTold
counting a n = record { answer = a; count = cond (day_refuses a) 0 n }
