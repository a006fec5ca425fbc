-- The law of `is_one`.
-- Assumes nothing.
use Prim.Native.Nat.{ℕ, ◌≤◌}
use mathlib.Core.Bool.{true}
use mathlib.Core.Path.{◌≡◌}
use borrow.Author.Tests.{leb-true}
use lib.Dec.{leb}
use Rattle.laws.proofs.Bools.{and_left, and_right}
use Rattle.answers.specs.Lying.{is_one}

pub one-true : (k n : ℕ) → is_one k n ≡ true → (1 ≤ k) × (k ≤ n)
unfolding is_one
one-true k n t = (leb-true 1 k (and_left (leb 1 k) (leb k n) t), leb-true k n (and_right (leb 1 k) (leb k n) t))
