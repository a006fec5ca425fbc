-- What a writer is given: units, one behind the other.
use Rattle.std.specs.Prelude.{ℕ, zero, suc, ◌+◌, Bool, List, leb, length}
use Rattle.laws.specs.Least.{least}
use Rattle.laws.specs.Part.{part}
use Rattle.laws.specs.Sum.{sum}
use Rattle.kinds.specs.Kinds.{limit}
use Rattle.evidence_units.specs.Units.{items, said_at}
use Rattle.evidence.specs.Blocks.{blocks_for}

-- where unit i begins
unfoldable pub place_of : List ℕ → ℕ → ℕ
place_of x zero = 0
place_of x (suc i) = place_of x i + (items + said_at x (place_of x i))

-- nothing is left for unit i
unfoldable pub done_at : List ℕ → ℕ → Bool
done_at x i = leb (length x) (place_of x i)

-- how many units there are, and one more than the limit where there are more
unfoldable pub units_in : List ℕ → ℕ
units_in x = least (done_at x) (limit + 1)

-- the evidence's length and the bytes of unit i; the blocks of the units before it
unfoldable pub said_by : List ℕ → ℕ → ℕ
said_by x i = said_at x (place_of x i)

unfoldable pub unit_of : List ℕ → ℕ → List ℕ
unit_of x i = part (place_of x i) (items + said_by x i) x

unfoldable pub blocks_to : List ℕ → ℕ → ℕ
blocks_to x i = sum (λ j. blocks_for (said_by x j)) i
