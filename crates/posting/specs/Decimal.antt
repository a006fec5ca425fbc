-- Plain decimals.
use Rattle.std.specs.Prelude.{ℕ, ◌+◌, ◌/◌, ◌^◌, Bool, List, ltb}
use Rattle.laws.specs.Least.{least}
use Rattle.numbers.specs.Numbers.{digits_of}

-- after w digits are taken off its end, one digit of n is left
unfoldable pub last_left : ℕ → ℕ → Bool
last_left n w = ltb (n / 10 ^ w) 10

-- how many digits n has; a number of 64 bits has at most 20
unfoldable pub width_of : ℕ → ℕ
width_of n = least (last_left n) 19 + 1

-- n with no leading zero
unfoldable pub decimal : ℕ → List ℕ
decimal n = digits_of (width_of n) n
