-- What each answer of writing says: what is reported is the first, in the order of deciding, at which something is wrong.
use Rattle.std.specs.Prelude.{ℕ, ◌≤◌, ◌<◌, List, ◌≡◌, length}
use Rattle.answers.specs.declared.of_day.DayAnswer.{DayAnswer}
use Rattle.answers.specs.OfDay.{day_accepted, bad_contents, short_room}
use Rattle.day.specs.Bodies.{size_at}
use Rattle.day.specs.First.{Listed, ListSays}
use Rattle.day_writer.specs.Writing.{name_of, file_for}
use Rattle.day_writer.specs.Given.{Given}

pub data Says (names lengths bodies : List ℕ) (room : ℕ) : DayAnswer → Type 0 where
  -- 30: names and lengths are not given well
  given : (Given names lengths → ⊥) → Says names lengths bodies room bad_contents
  -- 31, 32, 33: they are, and the bodies are refused
  listed : (a : DayAnswer) → Given names lengths → ListSays (name_of names) (size_at lengths) (length lengths) bodies a → (a.number ≡ 0 → ⊥) →
      Says names lengths bodies room a
  -- 8: the bodies are good too, and the room is shorter than the file
  short : Given names lengths → Listed (name_of names) (size_at lengths) (length lengths) bodies → room < length (file_for names lengths bodies) →
      Says names lengths bodies room short_room
  -- 0
  good : Given names lengths → Listed (name_of names) (size_at lengths) (length lengths) bodies → length (file_for names lengths bodies) ≤ room →
      Says names lengths bodies room day_accepted
