-- What a writer is given well, with nothing said of the order in which it decides.
use Rattle.std.specs.Prelude.{ℕ, ◌*◌, ◌≤◌, List, ◌≡◌, length}
use Rattle.day.specs.Contents.{most}
use Rattle.day.specs.Bodies.{size_at, Short}

-- a name of eight bytes for each length, at most 16, and no length of more than six digits
pub record Given (names lengths : List ℕ) : Type 0 where
  pub few : length lengths ≤ most
  pub one_each : length names ≡ length lengths * 8
  pub short : Short (size_at lengths) (length lengths)
