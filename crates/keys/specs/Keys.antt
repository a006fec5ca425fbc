-- Keys by their numbers from 0 on: `key i` are the bytes of key i. Which repeats an earlier one, and where one stands among them.
use Rattle.std.specs.Prelude.{ℕ, zero, suc, ◌<◌, Bool, cond, List, ◌≡◌, ltb, Option, None, Some}
use Rattle.laws.specs.Least.{least, some}
use Rattle.laws.specs.Part.{same}
use Rattle.laws.specs.Tabulate.{tabulate}

-- whether keys i and j are the same, whether key i is an earlier one
unfoldable pub shares_in : (ℕ → List ℕ) → ℕ → ℕ → Bool
shares_in key i j = same (key i) (key j)

unfoldable pub repeats_in : (ℕ → List ℕ) → ℕ → Bool
repeats_in key i = some (shares_in key i) i

-- no two of n keys are the same
abbrev pub Distinct : (ℕ → List ℕ) → ℕ → Type 0
Distinct key n = (i j : ℕ) → i < n → j < n → key i ≡ key j → i ≡ j

-- the first of n keys that is this one; n where none is
unfoldable pub has_key_in : (ℕ → List ℕ) → List ℕ → ℕ → Bool
has_key_in key one i = same (key i) one

unfoldable pub place_in : (ℕ → List ℕ) → ℕ → List ℕ → ℕ
place_in key n one = least (has_key_in key one) n

-- for each of m other keys, its place among the n keys, in a list that has room for so many; 0 past the m
unfoldable pub place_for : (ℕ → List ℕ) → ℕ → (ℕ → List ℕ) → ℕ → ℕ → ℕ
place_for key n other m j = cond (ltb j m) (place_in key n (other j)) 0

unfoldable pub places_in : (ℕ → List ℕ) → ℕ → (ℕ → List ℕ) → ℕ → ℕ → List ℕ
places_in key n other m room = tabulate (place_for key n other m) room

-- a place as one of n, or none of them
abbrev pub below : ℕ → ℕ → Option ℕ
below n k = cond (ltb k n) (Some k) None

-- a number that counts a place from 1, 0 where there is none, as that place, and back
abbrev pub from_one : ℕ → Option ℕ
from_one zero = None
from_one (suc k) = Some k

abbrev pub counted : Option ℕ → ℕ
counted None = 0
counted (Some k) = suc k
