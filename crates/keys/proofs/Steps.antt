-- A loop over few keys: its counter, the places it reads and where its keys start fit a word.
-- Assumes nothing.
use Prim.Native.Nat.{ℕ, ◌+◌, ◌≤◌, ◌<◌}
use native.Mathlib.Omega.{arith}
use mir.Syntax.{w64}
use mir.Val.{Fits}

-- a key that lies within a slice starts within it
module _ (a b c size end : ℕ) (h : a + b + c + size ≤ end) (l : end < 0x10000000000000000) where
  pub times-fits : Fits w64 a
  times-fits = record { fits = omega arith }

  pub offset-fits : Fits w64 (a + b)
  offset-fits = record { fits = omega arith }

  pub start_fits : Fits w64 (a + b + c)
  start_fits = record { fits = omega arith }
