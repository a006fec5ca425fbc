-- What each answer of reading says: what is reported is the first, in the order of reading, at which something is wrong.
use Rattle.std.specs.Prelude.{ℕ, ◌+◌, ◌≤◌, ◌<◌, true, false, List, ◌≡◌, length, get_or, Some, None}
use Rattle.laws.specs.Part.{part}
use Rattle.laws.specs.Sum.{sum}
use Rattle.text.specs.Characters.{digits}
use Rattle.numbers.specs.Numbers.{word_of}
use Rattle.kinds.specs.declared.of_files.Kind.{Kind}
use Rattle.kinds.specs.Kinds.{daily_of}
use Rattle.answers.specs.declared.told.Answer.{Answer}
use Rattle.answers.specs.declared.of_day.DayAnswer.{DayAnswer}
use Rattle.answers.specs.Answers.{accepted, refused, refused_at}
use Rattle.answers.specs.OfDay.{day_accepted, bad_contents, other_length, repeated_name, refused_body}
use Rattle.keys.specs.Keys.{repeats_in, Distinct}
use Rattle.reader.specs.Reading.{read_as}
use Rattle.day.specs.Contents.{most, front, form_for, end_in, count_in, digits_in, name_in, length_in, bodies_in}
use Rattle.day.specs.Bodies.{body_in}
use Rattle.day.specs.Meets.{Belongs}

-- the bytes begin with the contents of a day: a form, two digits, at most 16 entries, all there, each with the digits of a length;
-- and the form is the one that the lengths need: "2" where one is over 99,999, else "1"
pub record Contents (s : List ℕ) : Type 0 where
  pub fewest : front ≤ length s
  pub counted : digits (part 1 2 s) ≡ true
  pub few : count_in s ≤ most
  pub whole : end_in s ≤ length s
  pub lengths : (i : ℕ) → i < count_in s → digits (digits_in s i) ≡ true
  pub formed : get_or s 0 0 ≡ form_for (length_in s) (count_in s)

-- n bodies that make up all bytes behind the contents, under names of which no two are the same
pub record Listed (name : ℕ → List ℕ) (size : ℕ → ℕ) (n : ℕ) (bodies : List ℕ) : Type 0 where
  pub all : sum size n ≡ length bodies
  pub names : Distinct name n
  pub each : (i : ℕ) → i < n → Belongs (name i) (body_in size bodies i)

-- what is told of a body that is refused
pub data BodySays (name body : List ℕ) : Answer → Type 0 where
  -- 1: its name says no kind of a day file
  unknown : daily_of (word_of name) ≡ None → BodySays name body (refused 1)
  -- as reading it as the kind that its name says
  broken : (k : Kind) → daily_of (word_of name) ≡ Some k → ((read_as k body).number ≡ 0 → ⊥) → BodySays name body (read_as k body)
  -- 5 at item 4 of the header: it is accepted so, and has another name
  other : (k : Kind) → daily_of (word_of name) ≡ Some k → read_as k body ≡ accepted → (part 19 8 body ≡ name → ⊥) →
      BodySays name body (refused_at 5 0 4 0x30303030)

-- what is told of n bodies
pub data ListSays (name : ℕ → List ℕ) (size : ℕ → ℕ) (n : ℕ) (bodies : List ℕ) : DayAnswer → Type 0 where
  -- 0
  good : Listed name size n bodies → ListSays name size n bodies day_accepted
  -- 31: the lengths are not those of the bodies together
  lengths : (sum size n ≡ length bodies → ⊥) → ListSays name size n bodies other_length
  -- 32: they are, and body i + 1 is the first that has the name of an earlier one
  repeats : (i : ℕ) → sum size n ≡ length bodies → i < n → repeats_in name i ≡ true → ((m : ℕ) → m < i → repeats_in name m ≡ false) →
      ListSays name size n bodies (repeated_name (i + 1))
  -- 33: no name is an earlier one, and body i + 1 is the first that is refused
  refuses : (i : ℕ) (a : Answer) → sum size n ≡ length bodies → Distinct name n → i < n →
      ((m : ℕ) → m < i → Belongs (name m) (body_in size bodies m)) → BodySays (name i) (body_in size bodies i) a →
      ListSays name size n bodies (refused_body (i + 1) a)

pub data Says (s : List ℕ) : DayAnswer → Type 0 where
  -- 30: the bytes do not begin with the contents of a day
  contents : (Contents s → ⊥) → Says s bad_contents
  -- 0, 31, 32, 33: they do, and what is told of the bodies that these list
  listed : (a : DayAnswer) → Contents s → ListSays (name_in s) (length_in s) (count_in s) (bodies_in s) a → Says s a
