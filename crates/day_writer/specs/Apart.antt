-- A day file taken apart: its names, its lengths, its bodies.
use Rattle.std.specs.Prelude.{ℕ, ◌-◌, ◌≤◌, List, ◌++◌, ◌≡◌, length, drop}
use Rattle.laws.specs.Joined.{joined}
use Rattle.laws.specs.Part.{part}
use Rattle.laws.specs.Tabulate.{tabulate}
use Rattle.answers.specs.OfDay.{day_accepted}
use Rattle.day.specs.Contents.{count_in, name_in, length_in, bodies_in}
use Rattle.day.specs.Bodies.{size_at, body_in}
use Rattle.day.specs.Reading.{read_of}
use Rattle.day_writer.specs.Writing.{name_of, decided, file_for, write_told, write_after}

unfoldable pub names_in : List ℕ → List ℕ
names_in s = joined (name_in s) (count_in s)

unfoldable pub lengths_in : List ℕ → List ℕ
lengths_in s = tabulate (length_in s) (count_in s)

-- what is written reads as accepted, and taken apart it is what was given
pub record Kept (names lengths bodies s : List ℕ) : Type 0 where
  pub good : read_of s ≡ day_accepted
  pub names-kept : names_in s ≡ names
  pub lengths-kept : lengths_in s ≡ lengths
  pub bodies_kept : bodies_in s ≡ bodies

-- the bytes that are shown for body k are what a writer is given for it, their item 4 its name and how many they are its length
pub record Handed (s : List ℕ) (k start size : ℕ) : Type 0 where
  pub name : part 19 8 (part start size s) ≡ name_of (names_in s) (k - 1)
  pub long : size ≡ size_at (lengths_in s) (k - 1)
  pub bytes : part start size s ≡ body_in (size_at (lengths_in s)) (bodies_in s) (k - 1)

-- it came of a file that is accepted
pub record Came (names lengths bodies : List ℕ) : Type 0 where
  pub file : List ℕ
  pub good : read_of file ≡ day_accepted
  pub names_of : names_in file ≡ names
  pub lengths-of : lengths_in file ≡ lengths
  pub bodies_of : bodies_in file ≡ bodies

-- a file, taken apart, is accepted by the writer, which stores the same bytes at the front of any room that is long enough
pub record Again (s : List ℕ) : Type 0 where
  pub good : decided (names_in s) (lengths_in s) (bodies_in s) ≡ day_accepted
  pub same : file_for (names_in s) (lengths_in s) (bodies_in s) ≡ s
  pub told : (room : ℕ) → length s ≤ room → write_told (names_in s) (lengths_in s) (bodies_in s) room ≡ day_accepted
  pub stored : (room : List ℕ) → length s ≤ length room → write_after (names_in s) (lengths_in s) (bodies_in s) room ≡ s ++ drop (length s) room
