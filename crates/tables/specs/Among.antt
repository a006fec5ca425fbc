-- Codes in a list.
use Rattle.std.specs.Prelude.{ℕ, ◌<◌, Bool, List, ◌≡◌, eqb, ltb, length, get_or}
use Rattle.laws.specs.Least.{least}

-- number k of a list of codes is this one
unfoldable pub code_is : List ℕ → ℕ → ℕ → Bool
code_is codes code k = eqb (get_or codes k 0) code

-- where the code stands in a list, as many as there are where it is none of them
unfoldable pub place_among : List ℕ → ℕ → ℕ
place_among codes code = least (code_is codes code) (length codes)

-- the code is one of a list
unfoldable pub is_among : List ℕ → ℕ → Bool
is_among codes code = ltb (place_among codes code) (length codes)

pub record Among (codes : List ℕ) (code : ℕ) : Type 0 where
  pub place : ℕ
  pub inside : place < length codes
  pub is : get_or codes place 0 ≡ code
