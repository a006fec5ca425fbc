-- No two refusals are told alike, so what is told of a result says which one it is.
-- Assumes nothing.
use Rattle.std.specs.Prelude.{ℕ, ◌+◌, ◌-◌, Option, Some, None, Result, Ok, Err, IfOk, cond, eqb}
use native.Mathlib.Omega.{arith}
use borrow.Author.Tests.{ne_eqb}
use mathlib.Core.Path.{◌≡◌, refl, sym, ap, ◌∙◌}
use Rattle.answers.specs.declared.told.Answer.{Answer}
use Rattle.answers.specs.declared.refusing.Refusal.{Refusal}
use Rattle.answers.specs.declared.refusing.Refusal.TheVariants.{UnknownKind, Length, TooMany, Broken, Disagrees, Total, Repeated, ShortRoom, Ended, Headers, Unanswered, Amount, NoRecord, Lacking, Foreign, Unsigned, PostedBefore, NoMember, Over, SamePayer, Lonely, Answers, Split}
use Rattle.answers.specs.declared.of_two.OfTwo.{OfTwo}
use Rattle.answers.specs.declared.of_two.OfTwo.TheVariants.{Both, First, Second}
use Rattle.answers.specs.declared.of_day.DayAnswer.{DayAnswer}
use Rattle.answers.specs.declared.of_day.OfDay.{OfDay}
use Rattle.answers.specs.declared.of_day.OfDay.TheVariants as days
use Rattle.answers.specs.declared.of_two.OfResults.{OfResults}
use Rattle.answers.specs.declared.of_two.OfResults.TheVariants.{WithFirst, WithSecond}
use Rattle.answers.specs.declared.lying.Part.{Part}
use Rattle.answers.specs.Storing.{Stored, stored_by}
use Rattle.answers.specs.Lying.{Lies, Refused, From, Nowhere, part_lies}
use Rattle.answers.specs.Refusing.{told_by, answer_of}
use Rattle.answers.specs.OfTwo.{Story, told_of_two, answer_of_two, request_by, story_by}
use Rattle.answers.specs.OfDay.{DayTold, DayShown, told_of_day, day_answer_of, counted_by, shown_by}
use Rattle.answers.proofs.Refusals.{number_of}
use Rattle.answers.proofs.OfDay.{day-number}
use Rattle.answers.proofs.Tellings.{told-refuses, two-refuses, day-refusal}

-- the refusal that an answer's number, record, item and code tell, so that no two refusals are told alike
told_back : ℕ → ℕ → ℕ → ℕ → Refusal
told_back n rec item code =
    cond (eqb n 1) UnknownKind (
    cond (eqb n 2) Length (
    cond (eqb n 3) TooMany (
    cond (eqb n 4) (Broken rec item code) (
    cond (eqb n 5) (Disagrees rec item) (
    cond (eqb n 6) (Total rec item) (
    cond (eqb n 7) (Repeated rec item) (
    cond (eqb n 8) ShortRoom (
    cond (eqb n 9) Ended (
    cond (eqb n 12) (Headers item) (
    cond (eqb n 13) (Unanswered rec item) (
    cond (eqb n 14) (Amount rec item) (
    cond (eqb n 15) NoRecord (
    cond (eqb n 20) (Lacking rec) (
    cond (eqb n 21) (Foreign rec) (
    cond (eqb n 22) (Unsigned rec) (
    cond (eqb n 40) PostedBefore (
    cond (eqb n 41) (NoMember rec) (
    cond (eqb n 42) (Over rec) (
    cond (eqb n 43) (SamePayer rec) (
    cond (eqb n 50) (Lonely rec) (
    cond (eqb n 51) Answers (
    Split rec))))))))))))))))))))))

back_of : Answer → Refusal
back_of a = told_back a.number a.rec a.item a.code

back_told : (r : Refusal) → back_of (told_by r) ≡ r
unfolding told_back back_of
back_told UnknownKind = refl
back_told Length = refl
back_told TooMany = refl
back_told (Broken rec item code) = refl
back_told (Disagrees rec item) = refl
back_told (Total rec item) = refl
back_told (Repeated rec item) = refl
back_told ShortRoom = refl
back_told Ended = refl
back_told (Headers item) = refl
back_told (Unanswered rec item) = refl
back_told (Amount rec item) = refl
back_told NoRecord = refl
back_told (Lacking rec) = refl
back_told (Foreign rec) = refl
back_told (Unsigned rec) = refl
back_told PostedBefore = refl
back_told (NoMember rec) = refl
back_told (Over rec) = refl
back_told (SamePayer member) = refl
back_told (Lonely rec) = refl
back_told Answers = refl
back_told (Split rec) = refl

pub told_one : (r t : Refusal) → told_by r ≡ told_by t → r ≡ t
told_one r t e = sym (back_told r) ∙ (ap back_of e ∙ back_told t)

two_back : Answer → OfTwo
two_back a = cond (eqb a.side 1) (First (back_of a)) (cond (eqb a.side 2) (Second (back_of a)) (Both (back_of a)))

side_told : (r : Refusal) → (told_by r).side ≡ 0
side_told UnknownKind = refl
side_told Length = refl
side_told TooMany = refl
side_told (Broken rec item code) = refl
side_told (Disagrees rec item) = refl
side_told (Total rec item) = refl
side_told (Repeated rec item) = refl
side_told ShortRoom = refl
side_told Ended = refl
side_told (Headers item) = refl
side_told (Unanswered rec item) = refl
side_told (Amount rec item) = refl
side_told NoRecord = refl
side_told (Lacking rec) = refl
side_told (Foreign rec) = refl
side_told (Unsigned rec) = refl
side_told PostedBefore = refl
side_told (NoMember rec) = refl
side_told (Over rec) = refl
side_told (SamePayer member) = refl
side_told (Lonely rec) = refl
side_told Answers = refl
side_told (Split rec) = refl

two_told : (r : OfTwo) → two_back (told_of_two r) ≡ r
unfolding two_back back_of
two_told (Both r) = rw (side_told r) (ap Both (back_told r))
two_told (First r) = ap First (back_told r)
two_told (Second r) = ap Second (back_told r)

pub two_one : (r t : OfTwo) → told_of_two r ≡ told_of_two t → r ≡ t
two_one r t e = sym (two_told r) ∙ (ap two_back e ∙ two_told t)

day_back : DayAnswer → OfDay
day_back a =
    cond (eqb a.number 30) days.Contents
    (cond (eqb a.number 31) days.Lengths
    (cond (eqb a.number 32) (days.SameName a.body)
    (cond (eqb a.number 33) (days.Body a.body (back_of a.answer)) days.ShortRoom)))

day_told : (r : OfDay) → day_back (told_of_day r) ≡ r
unfolding day_back
day_told days.Contents = refl
day_told days.Lengths = refl
day_told (days.SameName k) = refl
day_told (days.Body k r) = ap (λ (q : Refusal). days.Body k q) (back_told r)
day_told days.ShortRoom = refl

pub day_one : (r t : OfDay) → told_of_day r ≡ told_of_day t → r ≡ t
day_one r t e = sym (day_told r) ∙ (ap day_back e ∙ day_told t)

-- and so of results
pub answer_one : (r t : Result (Unit {0}) Refusal) → answer_of r ≡ answer_of t → r ≡ t
answer_one (Ok a) (Ok b) e = refl
answer_one (Ok a) (Err t) e = absurd (told-refuses t (number_of (sym e)))
answer_one (Err r) (Ok b) e = absurd (told-refuses r (number_of e))
answer_one (Err r) (Err t) e = ap Err (told_one r t e)

pub answer-two_one : (r t : Result (Unit {0}) OfTwo) → answer_of_two r ≡ answer_of_two t → r ≡ t
answer-two_one (Ok a) (Ok b) e = refl
answer-two_one (Ok a) (Err t) e = absurd (two-refuses t (number_of (sym e)))
answer-two_one (Err r) (Ok b) e = absurd (two-refuses r (number_of e))
answer-two_one (Err r) (Err t) e = ap Err (two_one r t e)

pub day-answer_one : (r t : Result (Unit {0}) OfDay) → day_answer_of r ≡ day_answer_of t → r ≡ t
day-answer_one (Ok a) (Ok b) e = refl
day-answer_one (Ok a) (Err t) e = absurd (day-refusal t (day-number (sym e)))
day-answer_one (Err r) (Ok b) e = absurd (day-refusal r (day-number e))
day-answer_one (Err r) (Err t) e = ap Err (day_one r t e)

pub stored_one : (r t : Result ℕ Refusal) → stored_by r ≡ stored_by t → r ≡ t
stored_one (Ok m) (Ok n) e = ap Ok (ap (λ (s : Stored). s.size) e)
stored_one (Ok m) (Err t) e = absurd (told-refuses t (number_of (ap (λ (s : Stored). s.answer) (sym e))))
stored_one (Err r) (Ok n) e = absurd (told-refuses r (number_of (ap (λ (s : Stored). s.answer) e)))
stored_one (Err r) (Err t) e = ap Err (told_one r t (ap (λ (s : Stored). s.answer) e))

pub counted_one : (r t : Result ℕ OfDay) → counted_by r ≡ counted_by t → r ≡ t
counted_one (Ok m) (Ok n) e = ap Ok (ap (λ (s : DayTold). s.count) e)
counted_one (Ok m) (Err t) e = absurd (day-refusal t (day-number (ap (λ (s : DayTold). s.answer) (sym e))))
counted_one (Err r) (Ok n) e = absurd (day-refusal r (day-number (ap (λ (s : DayTold). s.answer) e)))
counted_one (Err r) (Err t) e = ap Err (day_one r t (ap (λ (s : DayTold). s.answer) e))

-- where a part lies says the part
part_back : Lies → Option Part
part_back Refused = None
part_back (From start size) = Some record { start = start; size = size }
part_back Nowhere = None

part_told : (p : Option Part) → part_back (part_lies p) ≡ p
unfolding part_back
part_told (Some part) = refl
part_told None = refl

pub part_one : (p q : Option Part) → part_lies p ≡ part_lies q → p ≡ q
part_one p q e = sym (part_told p) ∙ (ap part_back e ∙ part_told q)

pub shown_one : (r t : Result (Option Part) OfDay) → shown_by r ≡ shown_by t → r ≡ t
shown_one (Ok p) (Ok q) e = ap Ok (part_one p q (ap (λ (s : DayShown). s.lies) e))
shown_one (Ok p) (Err t) e = absurd (day-refusal t (day-number (ap (λ (s : DayShown). s.answer) (sym e))))
shown_one (Err r) (Ok q) e = absurd (day-refusal r (day-number (ap (λ (s : DayShown). s.answer) e)))
shown_one (Err r) (Err t) e = ap Err (day_one r t (ap (λ (s : DayShown). s.answer) e))

request_back : ℕ → Option ℕ
request_back n = cond (eqb n 0) None (Some (n - 1))

request_told : (q : Option ℕ) → request_back (request_by q) ≡ q
unfolding request_back
request_told (Some i) =
    let back : (i + 1) - 1 ≡ i = omega arith in
    rw (ne_eqb (i + 1) 0 (λ z. absurd (omega arith)), back)
request_told None = refl

pub story_one : (r t : Result (Option ℕ) OfResults) → story_by r ≡ story_by t → r ≡ t
story_one (Ok p) (Ok q) e = ap Ok (sym (request_told p) ∙ (ap request_back (ap (λ (s : Story). s.request) e) ∙ request_told q))
story_one (Ok p) (Err (WithFirst t)) e = absurd (two-refuses t (number_of (ap (λ (s : Story). s.answer) (sym e))))
story_one (Ok p) (Err (WithSecond t)) e = absurd (two-refuses t (number_of (ap (λ (s : Story). s.answer) (sym e))))
story_one (Err (WithFirst r)) (Ok q) e = absurd (two-refuses r (number_of (ap (λ (s : Story). s.answer) e)))
story_one (Err (WithSecond r)) (Ok q) e = absurd (two-refuses r (number_of (ap (λ (s : Story). s.answer) e)))
story_one (Err (WithFirst r)) (Err (WithFirst t)) e = ap (λ (x : OfTwo). Err (WithFirst x)) (two_one r t (ap (λ (s : Story). s.answer) e))
story_one (Err (WithSecond r)) (Err (WithSecond t)) e = ap (λ (x : OfTwo). Err (WithSecond x)) (two_one r t (ap (λ (s : Story). s.answer) e))
story_one (Err (WithFirst r)) (Err (WithSecond t)) e = absurd (omega (arith, ap (λ (s : Story). s.which) e))
story_one (Err (WithSecond r)) (Err (WithFirst t)) e = absurd (omega (arith, ap (λ (s : Story). s.which) e))

-- nor where a result that is good is known to be a number
pub count_one : (m : ℕ) (r t : Result ℕ Refusal) → IfOk r (λ n. n ≡ m) → IfOk t (λ n. n ≡ m) → answer_of r ≡ answer_of t → r ≡ t
count_one m (Ok a) (Ok b) e f g = ap Ok (e ∙ sym f)
count_one m (Ok a) (Err t) e f g = absurd (told-refuses t (number_of (sym g)))
count_one m (Err r) (Ok b) e f g = absurd (told-refuses r (number_of g))
count_one m (Err r) (Err t) e f g = ap Err (told_one r t g)
