-- The profile of whoever hands evidence in, as a number.
use Rattle.std.specs.Prelude.{ℕ, Bool, not, eqb}

-- 0 is ordinary, every other number partly exempt
abbrev pub is_exempt : ℕ → Bool
is_exempt profile = not (eqb profile 0)
