-- One of n bodies has more than 99,999 bytes, which five digits do not say.
use Rattle.std.specs.Prelude.{ℕ, ◌≤◌, ◌<◌}

pub record Long (size : ℕ → ℕ) (n : ℕ) : Type 0 where
  pub body : ℕ
  pub one : body < n
  pub long : 100000 ≤ size body
