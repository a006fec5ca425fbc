-- What stands before, after and between the bytes that part a text.
use Rattle.std.specs.Prelude.{ℕ, zero, suc, ◌+◌, cond, List, eqb, ltb, length, take, drop}
use Rattle.std.specs.List.{position_or_len}

-- how many bytes of s stand before the first b; all where there is none
unfoldable pub index_of : ℕ → List ℕ → ℕ
index_of b s = position_or_len (λ x. eqb x b) s

-- how many bytes of s end with the first b; all where there is none
unfoldable pub past_of : ℕ → List ℕ → ℕ
past_of b s = cond (ltb (index_of b s) (length s)) (index_of b s + 1) (index_of b s)

-- what stands before the first b, and what after it
unfoldable pub head_by : ℕ → List ℕ → List ℕ
head_by b s = take (index_of b s) s

unfoldable pub tail_by : ℕ → List ℕ → List ℕ
tail_by b s = drop (past_of b s) s

-- what stands after the first n b's, and what between b's with n of them before it
unfoldable pub after_by : ℕ → List ℕ → ℕ → List ℕ
after_by b s zero = s
after_by b s (suc n) = tail_by b (after_by b s n)

unfoldable pub field_by : ℕ → List ℕ → ℕ → List ℕ
field_by b s n = head_by b (after_by b s n)
