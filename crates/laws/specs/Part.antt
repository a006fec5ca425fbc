-- Parts of a list, and whether two lists are the same.
use Rattle.std.specs.Prelude.{ℕ, Bool, not, ◌&&◌, List, eqb, length, get_or, take, drop}
use Rattle.laws.specs.Least.{none}

-- the part of s that starts at `start` and is `size` long
unfoldable pub part : ℕ → ℕ → List ℕ → List ℕ
part start size s = take size (drop start s)

-- a and b have another element at place k
unfoldable pub differ : List ℕ → List ℕ → ℕ → Bool
differ a b k = not (eqb (get_or a k 0) (get_or b k 0))

-- a and b are as long as each other and differ at no place
unfoldable pub same : List ℕ → List ℕ → Bool
same a b = eqb (length a) (length b) && none (differ a b) (length a)

-- s begins with x
unfoldable pub begins : List ℕ → List ℕ → Bool
begins x s = same x (part 0 (length x) s)
