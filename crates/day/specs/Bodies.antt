-- The n bodies of a day, one behind the other in `bodies`: `name i` is the name of body i + 1, and `size i` how long it is.
use Rattle.std.specs.Prelude.{ℕ, ◌+◌, ◌<◌, cond, List, ltb, eqb, length, get_or}
use Rattle.laws.specs.Least.{least}
use Rattle.laws.specs.Part.{part, same}
use Rattle.laws.specs.Sum.{sum}
use Rattle.numbers.specs.Numbers.{word_of}
use Rattle.answers.specs.declared.told.Answer.{Answer}
use Rattle.answers.specs.declared.of_day.DayAnswer.{DayAnswer}
use Rattle.answers.specs.Answers.{accepted, refused_at, refuses_at, ◌then◌}
use Rattle.answers.specs.OfDay.{day_accepted, other_length, repeated_name, refused_body}
use Rattle.keys.specs.Keys.{repeats_in}
use Rattle.kinds.specs.Kinds.{daily_of}
use Rattle.reader.specs.Reading.{read_named}
use Rattle.day.specs.Contents.{length_end}

-- lengths by a list of them, and that each of n has at most six digits
unfoldable pub size_at : List ℕ → ℕ → ℕ
size_at lengths i = get_or lengths i 0

abbrev pub Short : (ℕ → ℕ) → ℕ → Type 0
Short size n = (i : ℕ) → i < n → size i < length_end

-- body i + 1
unfoldable pub body_in : (ℕ → ℕ) → List ℕ → ℕ → List ℕ
body_in size bodies i = part (sum size i) (size i) bodies

-- 5 where item 4 of its header is another name
unfoldable pub name_told : List ℕ → List ℕ → Answer
name_told name body = cond (same (part 19 8 body) name) accepted (refused_at 5 0 4 0x30303030)

-- as reading it, of kinds that go into a day file; all others are 1
unfoldable pub read_daily : ℕ → List ℕ → Answer
read_daily kind s = read_named (daily_of kind) s

-- one body: 1 where the name's first four letters are no kind of a day file, else what reading it as that kind says; last its name
unfoldable pub body_told : List ℕ → List ℕ → Answer
body_told name body = read_daily (word_of name) body then name_told name body

unfoldable pub body_told_at : (ℕ → List ℕ) → (ℕ → ℕ) → List ℕ → ℕ → Answer
body_told_at name size bodies i = body_told (name i) (body_in size bodies i)

-- 33 at the first body that is refused
unfoldable pub refused_told : (ℕ → Answer) → ℕ → ℕ → DayAnswer
refused_told told n i = cond (ltb i n) (refused_body (i + 1) (told i)) day_accepted

unfoldable pub bodies_told : (ℕ → List ℕ) → (ℕ → ℕ) → ℕ → List ℕ → DayAnswer
bodies_told name size n bodies =
    refused_told (body_told_at name size bodies) n (least (refuses_at (body_told_at name size bodies)) n)

-- before it 32, at the first body that has the name of an earlier one
unfoldable pub repeat_told : DayAnswer → ℕ → ℕ → DayAnswer
repeat_told rest n i = cond (ltb i n) (repeated_name (i + 1)) rest

unfoldable pub names_told : (ℕ → List ℕ) → (ℕ → ℕ) → ℕ → List ℕ → DayAnswer
names_told name size n bodies = repeat_told (bodies_told name size n bodies) n (least (repeats_in name) n)

-- before that 31, where the lengths do not make up the bodies
unfoldable pub list_told : (ℕ → List ℕ) → (ℕ → ℕ) → ℕ → List ℕ → DayAnswer
list_told name size n bodies = cond (eqb (sum size n) (length bodies)) (names_told name size n bodies) other_length
