-- The first place where: one search for everything that looks for a first.
use Rattle.std.specs.Prelude.{ℕ, zero, suc, ◌+◌, Bool, cond, ltb, eqb}

-- m is the first place below n; with place n looked at too, it is m still, or n, or none
unfoldable pub further : (ℕ → Bool) → ℕ → ℕ → ℕ
further p n m = cond (ltb m n) m (cond (p n) n (suc n))

-- the first place below n where p holds, or n where there is none
unfoldable pub least : (ℕ → Bool) → ℕ → ℕ
least p zero = zero
least p (suc n) = further p n (least p n)

-- p holds at some place below n
unfoldable pub some : (ℕ → Bool) → ℕ → Bool
some p n = ltb (least p n) n

-- p holds at no place below n
unfoldable pub none : (ℕ → Bool) → ℕ → Bool
none p n = eqb (least p n) n

-- the number of place k of n, counted from 1; 0 where it is none of them
unfoldable pub number_in : ℕ → ℕ → ℕ
number_in n k = cond (ltb k n) (k + 1) 0
