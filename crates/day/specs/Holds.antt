-- What stands in a day file.
use Rattle.std.specs.Prelude.{ℕ, ◌<◌, List, ◌≡◌}
use Rattle.day.specs.Contents.{count_in, name_in, length_in, bodies_in}
use Rattle.day.specs.First.{Contents}

-- n bodies with these names and lengths, one behind the other
pub record Holds (s : List ℕ) (name : ℕ → List ℕ) (size : ℕ → ℕ) (n : ℕ) (bodies : List ℕ) : Type 0 where
  pub contents : Contents s
  pub count : count_in s ≡ n
  pub names : (i : ℕ) → i < n → name_in s i ≡ name i
  pub lengths : (i : ℕ) → i < n → length_in s i ≡ size i
  pub behind : bodies_in s ≡ bodies
