-- "20", then a date.
use Rattle.std.proofs.Common.{ℕ, ◌≡◌, List, [], ◌∷◌, take, eqb, refl, arith}
use Rattle.std.proofs.lemmas.Bool.Decides.{nat_tests}
use Rattle.std.specs.Cmp.Lexicographic.{pointwise}
use Rattle.numbers.specs.Dates.{of2000, is_long_date}
use Rattle.numbers.proofs.dates.long_date.Goals as goal

twenty : (s : List ℕ) → pointwise eqb (0x32 ∷ 0x30 ∷ []) (take 2 s) ≡ of2000 s
unfolding of2000
twenty [] = refl
twenty (x ∷ []) = grind (arith, nat_tests)
twenty (x ∷ y ∷ s) = grind (arith, nat_tests)

pub returns-then-starts_with : goal.returns-then-starts_with
unfolding is_long_date
returns-then-starts_with c = rw (← twenty c.args.s.now, ← c.starts_with.ensures.value, c.if-starts_with.true, ← c.rest.ensures) c.date.ensures

pub returns-else-starts_with : goal.returns-else-starts_with
unfolding is_long_date
returns-else-starts_with c = rw (← twenty c.args.s.now, ← c.starts_with.ensures.value, c.if-starts_with.false)
