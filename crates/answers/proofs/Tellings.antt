-- The laws of what is told of a result: `?` and loops of `?`.
-- Assumes nothing.
use Rattle.std.specs.Prelude.{ℕ, ◌+◌, ◌<◌, ◌≤◌}
use mathlib.Core.Path.{◌≡◌, sym, ◌∙◌, subst}
use Rattle.answers.specs.declared.told.Answer.{Answer}
use Rattle.answers.specs.declared.refusing.Refusal.{Refusal}
use Rattle.answers.specs.declared.refusing.Refusal.TheVariants.{UnknownKind, Length, TooMany, Broken, Disagrees, Total, Repeated, ShortRoom, Ended, Headers, Unanswered, Amount, NoRecord, Lacking, Foreign, Unsigned, PostedBefore, NoMember, Over, SamePayer, Lonely, Answers, Split}
use Rattle.answers.specs.Answers.{accepted, ◌then◌, first_told}
use Rattle.answers.specs.declared.of_two.OfTwo.{OfTwo}
use Rattle.answers.specs.declared.of_two.OfTwo.TheVariants.{Both, First, Second}
use Rattle.answers.specs.declared.of_day.DayAnswer.{DayAnswer}
use Rattle.answers.specs.declared.of_day.OfDay.{OfDay}
use Rattle.answers.specs.declared.of_day.OfDay.TheVariants.{Contents, Lengths, SameName, Body, ShortRoom}
use Rattle.answers.specs.Refusing.{told_by}
use Rattle.answers.specs.OfTwo.{told_of_two}
use Rattle.answers.specs.OfDay.{told_of_day, day_accepted}
use Rattle.answers.proofs.OfDay.{day-number}
use native.Mathlib.Nat.{le_antisymm}
use Rattle.laws.proofs.Leasts.{least_start}
use Rattle.answers.proofs.Refusals.{number_of, then-first, then-second, So-far, told_more, told-stop, told-end}

-- no refusal is told as accepted
pub told-refuses : (r : Refusal) → (told_by r).number ≡ 0 → ⊥
told-refuses UnknownKind e = cc
told-refuses Length e = cc
told-refuses TooMany e = cc
told-refuses (Broken rec item code) e = cc
told-refuses (Disagrees rec item) e = cc
told-refuses (Total rec item) e = cc
told-refuses (Repeated rec item) e = cc
told-refuses ShortRoom e = cc
told-refuses Ended e = cc
told-refuses (Headers item) e = cc
told-refuses (Unanswered rec item) e = cc
told-refuses (Amount rec item) e = cc
told-refuses NoRecord e = cc
told-refuses (Lacking rec) e = cc
told-refuses (Foreign rec) e = cc
told-refuses (Unsigned rec) e = cc
told-refuses PostedBefore e = cc
told-refuses (NoMember rec) e = cc
told-refuses (Over rec) e = cc
told-refuses (SamePayer member) e = cc
told-refuses (Lonely rec) e = cc
told-refuses Answers e = cc
told-refuses (Split rec) e = cc

-- what is refused is a refusal; what is accepted is none
pub bad : (r : Refusal) (a : Answer) → told_by r ≡ a → a.number ≡ 0 → ⊥
bad r a e z = told-refuses r (number_of e ∙ z)

pub good : (a : Answer) → accepted ≡ a → a.number ≡ 0
good a e = number_of (sym e)

-- `?`: a refusal is told of both, else what comes next
pub first : (r : Refusal) (a b : Answer) → told_by r ≡ a → told_by r ≡ (a then b)
first r a b e = e ∙ sym (then-first a b (bad r a e))

pub next : (x a b : Answer) → accepted ≡ a → x ≡ b → x ≡ (a then b)
next x a b e n = n ∙ sym (then-second a b (good a e))

-- the same of two files
pub two-refuses : (r : OfTwo) → (told_of_two r).number ≡ 0 → ⊥
two-refuses (Both r) e = told-refuses r e
two-refuses (First r) e = told-refuses r e
two-refuses (Second r) e = told-refuses r e

pub bad-two : (r : OfTwo) (a : Answer) → told_of_two r ≡ a → a.number ≡ 0 → ⊥
bad-two r a e z = two-refuses r (number_of e ∙ z)

pub first-two : (r : OfTwo) (a b : Answer) → told_of_two r ≡ a → told_of_two r ≡ (a then b)
first-two r a b e = e ∙ sym (then-first a b (bad-two r a e))

-- the same of a day
pub day-refusal : (r : OfDay) → (told_of_day r).number ≡ 0 → ⊥
day-refusal Contents e = cc
day-refusal Lengths e = cc
day-refusal (SameName k) e = cc
day-refusal (Body k r) e = cc
day-refusal ShortRoom e = cc

pub day-bad : (r : OfDay) (a : DayAnswer) → told_of_day r ≡ a → a.number ≡ 0 → ⊥
day-bad r a e z = day-refusal r (day-number e ∙ z)

pub day-good : (a : DayAnswer) → day_accepted ≡ a → a.number ≡ 0
day-good a e = day-number (sym e)

-- a loop that asks for one result after the other with `?`
module _ (f : ℕ → Answer) where
  pub loop-start : So-far f 0
  loop-start = least_start _

  pub loop-stop : (r : Refusal) (i n : ℕ) → i < n → So-far f i → told_by r ≡ f i → told_by r ≡ first_told f n
  loop-stop r i n h s e = e ∙ sym (told-stop f i n h s (bad r (f i) e))

  pub loop-more : (i : ℕ) → So-far f i → accepted ≡ f i → So-far f (i + 1)
  loop-more i s e = told_more f i s (good (f i) e)

  pub loop-end : (i n : ℕ) → n ≤ i → i ≤ n → So-far f i → accepted ≡ first_told f n
  loop-end i n h l s = sym (told-end f n (let P : ℕ → Type 0 = λ m. So-far f m in subst P (le_antisymm l h) s))
