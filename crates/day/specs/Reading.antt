-- Reading a day file: 30, then 31, 32 and 33; how many bodies it has, and where each lies.
use Rattle.std.specs.Prelude.{ℕ, ◌+◌, ◌-◌, cond, List}
use Rattle.laws.specs.Sum.{sum}
use Rattle.answers.specs.declared.of_day.DayAnswer.{DayAnswer}
use Rattle.answers.specs.OfDay.{DayTold, DayShown, bad_contents, day_refuses, counting}
use Rattle.answers.specs.Lying.{Lies, Refused, From, Nowhere, is_one}
use Rattle.day.specs.Contents.{end_in, count_in, name_in, length_in, bodies_in, contents_good}
use Rattle.day.specs.Bodies.{list_told}

-- what reading any bytes says
unfoldable pub read_of : List ℕ → DayAnswer
read_of s = cond (contents_good s) (list_told (name_in s) (length_in s) (count_in s) (bodies_in s)) bad_contents

-- with how many bodies there are, none when refused
unfoldable pub counted_of : List ℕ → DayTold
counted_of s = counting (read_of s) (count_in s)

-- where body i + 1 begins
unfoldable pub body_start : List ℕ → ℕ → ℕ
body_start s i = end_in s + sum (length_in s) i

-- where body k of a file that is accepted lies; bodies count from 1
unfoldable pub lies_in : List ℕ → ℕ → Lies
lies_in s k = cond (is_one k (count_in s)) (From (body_start s (k - 1)) (length_in s (k - 1))) Nowhere

unfoldable pub shown_of : List ℕ → ℕ → DayShown
shown_of s k = record { answer = read_of s; lies = cond (day_refuses (read_of s)) Refused (lies_in s k) }
