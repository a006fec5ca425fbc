-- What is told of a result: what is wanted is accepted, and every refusal has the paper's number and its place.
use Rattle.std.specs.Prelude.{ℕ, Result, Ok, Err}
use Rattle.answers.specs.declared.told.Answer.{Answer}
use Rattle.answers.specs.declared.refusing.Refusal.{Refusal}
use Rattle.answers.specs.declared.refusing.Refusal.TheVariants.{UnknownKind, Length, TooMany, Broken, Disagrees, Total, Repeated, ShortRoom, Ended, Headers, Unanswered, Amount, NoRecord, Lacking, Foreign, Unsigned, PostedBefore, NoMember, Over, SamePayer, Lonely, Answers, Split}
use Rattle.answers.specs.Answers.{accepted, refused, refused_at}

-- an unused code
abbrev pub unused : ℕ
unused = 0x30303030

-- an item of a record, with no code
abbrev pub item_of : ℕ → ℕ → ℕ → Answer
item_of number rec item = refused_at number rec item unused

abbrev pub told_by : Refusal → Answer
told_by UnknownKind = refused 1
told_by Length = refused 2
told_by TooMany = refused 3
told_by (Broken rec item code) = refused_at 4 rec item code
told_by (Disagrees rec item) = item_of 5 rec item
told_by (Total rec item) = item_of 6 rec item
told_by (Repeated rec item) = item_of 7 rec item
told_by ShortRoom = refused 8
told_by Ended = refused 9
told_by (Headers item) = item_of 12 0 item
told_by (Unanswered rec item) = item_of 13 rec item
told_by (Amount rec item) = item_of 14 rec item
told_by NoRecord = refused 15
told_by (Lacking rec) = item_of 20 rec 6
told_by (Foreign rec) = item_of 21 rec 6
told_by (Unsigned rec) = item_of 22 rec 13
told_by PostedBefore = item_of 40 0 5
told_by (NoMember rec) = item_of 41 rec 11
told_by (Over rec) = item_of 42 rec 11
told_by (SamePayer member) = item_of 43 member 0
told_by (Lonely rec) = item_of 50 rec 10
told_by Answers = refused 51
told_by (Split rec) = item_of 52 rec 10

-- what is told of a result of any kind
abbrev pub answer_of : {A : Type 0} → Result A Refusal → Answer
answer_of (Ok a) = accepted
answer_of (Err r) = told_by r
