-- Lists put one after the other.
use Rattle.std.specs.Prelude.{ℕ, zero, suc, List, [], ◌∷◌, ◌++◌}

-- f 0, f 1, .. , f (n - 1), one after the other
unfoldable pub joined : (ℕ → List ℕ) → ℕ → List ℕ
joined f zero = []
joined f (suc n) = joined f n ++ f n

-- all lists of a list, one after the other
unfoldable pub all : List (List ℕ) → List ℕ
all [] = []
all (s ∷ ss) = s ++ all ss
