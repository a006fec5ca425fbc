-- Two lists of names and bodies that are one.
use Rattle.std.specs.Prelude.{ℕ, ◌<◌, List, ◌≡◌}

pub record Same (n m : ℕ) (name body other another : ℕ → List ℕ) : Type 0 where
  pub count : n ≡ m
  pub names : (i : ℕ) → i < n → name i ≡ other i
  pub bodies : (i : ℕ) → i < n → body i ≡ another i
