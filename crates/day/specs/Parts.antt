-- Where a body of a day may lie.
use Rattle.std.specs.Prelude.{ℕ, ◌+◌, ◌-◌, ◌≤◌, ◌<◌, List, ◌≡◌, length}
use Rattle.laws.specs.Part.{part}
use Rattle.answers.specs.OfDay.{day_accepted}
use Rattle.day.specs.Contents.{end_in, count_in, name_in, length_in}
use Rattle.day.specs.Reading.{read_of, body_start}
use Rattle.day.specs.Meets.{Belongs}

-- the first body begins where the contents end, each next one where the one before it ends, and the last ends with the file
pub record Filled (s : List ℕ) : Type 0 where
  pub first : body_start s 0 ≡ end_in s
  pub next : (i : ℕ) → i < count_in s → body_start s (i + 1) ≡ body_start s i + length_in s i
  pub last : body_start s (count_in s) ≡ length s

-- body i + 1 lies behind the contents and within the file, and is what its name says
pub record Inside (s : List ℕ) (i : ℕ) : Type 0 where
  pub behind : end_in s ≤ body_start s i
  pub within : body_start s i + length_in s i ≤ length s
  pub belongs : Belongs (name_in s i) (part (body_start s i) (length_in s i) s)

-- what a body that is shown for number k, from byte `start` on and `size` long, says of the file
pub record Shows (s : List ℕ) (k start size : ℕ) : Type 0 where
  pub good : read_of s ≡ day_accepted
  pub least : 1 ≤ k
  pub most : k ≤ count_in s
  pub from : start ≡ body_start s (k - 1)
  pub long : size ≡ length_in s (k - 1)
  pub inside : Inside s (k - 1)
