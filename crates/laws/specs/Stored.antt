-- A lent list with something stored at a place of it.
use Rattle.std.specs.Prelude.{ℕ, ◌+◌, List, ◌++◌, length, take, drop}

-- x stands from `at` on, all else is as it was
abbrev pub stored : ℕ → List ℕ → List ℕ → List ℕ
stored at x old = take at old ++ x ++ drop (at + length x) old
