-- What the treasurer is told. A code is its four bytes as one number, so "0000" is 0x30303030.
use Rattle.std.specs.Prelude.{ℕ, Bool, cond, not, ltb, eqb}
use Rattle.laws.specs.Least.{least}
use Rattle.answers.specs.declared.told.Answer.{Answer}

-- a number with its place and code
abbrev pub refused_at : ℕ → ℕ → ℕ → ℕ → Answer
refused_at number rec item code = record { side = 0; number = number; rec = rec; item = item; code = code }

-- a number with no place; unused places are 0 and "0000"
abbrev pub refused : ℕ → Answer
refused number = refused_at number 0 0 0x30303030

-- 0: accepted
abbrev pub accepted : Answer
accepted = refused 0

-- an answer about one side of a pair
abbrev pub on_side : ℕ → Answer → Answer
on_side side a = record { side = side; number = a.number; rec = a.rec; item = a.item; code = a.code }

-- the answer is a refusal
unfoldable pub refuses : Answer → Bool
refuses a = not (eqb a.number 0)

-- the first of two answers that is a refusal, or accepted
infixr 20 ◌then◌
unfoldable pub ◌then◌ : Answer → Answer → Answer
a then b = cond (refuses a) a b

-- answer i is a refusal
unfoldable pub refuses_at : (ℕ → Answer) → ℕ → Bool
refuses_at f i = refuses (f i)

-- the first refusal among f 0 to f (n - 1), or accepted
unfoldable pub told_at : (ℕ → Answer) → ℕ → ℕ → Answer
told_at f n i = cond (ltb i n) (f i) accepted

unfoldable pub first_told : (ℕ → Answer) → ℕ → Answer
first_told f n = told_at f n (least (refuses_at f) n)
