-- The keys of the units, by a list of the places where the units begin.
-- Assumes nothing.
use Prim.Native.Nat.{ℕ, ◌+◌, ◌≤◌, ◌<◌}
use mathlib.Core.List.{List, ◌++◌}
use mathlib.Core.Path.{◌≡◌, ap, ◌∙◌}
use native.Mathlib.Nat.{add-zero}
use native.Mathlib.Omega.{arith}
use lib.ListN.{length, get_or, drop}
use Rattle.laws.specs.Least.{least}
use Rattle.laws.specs.Tabulate.{tabulate}
use Rattle.laws.proofs.Tabs.{fill-at}
use Rattle.keys.specs.Keys.{repeats_in}
use Rattle.keys.specs.Stands.{key_in, Inside}
use Rattle.keys.proofs.Spaced.{anywhere, listed_at, listed-inside, first-same}
use Rattle.evidence.specs.Reading.{repeat_told}
use Rattle.evidence_builder.specs.Units.{place_of, units_in}
use Rattle.evidence_writer.specs.Writing.{key_of, keys_told}

-- the places that were filled in
pub place_at : (x old places : List ℕ) (n i : ℕ) → places ≡ tabulate (place_of x) n ++ drop n old → i < n → get_or places i 0 ≡ place_of x i
place_at x old places n i e l = rw e (fill-at (place_of x) old n i l)

module _ (x places : List ℕ) (n : ℕ) (holds : (i : ℕ) → i < n → get_or places i 0 ≡ place_of x i) where
  listed : (i : ℕ) → i < n → key_in places (anywhere 0 61) x i ≡ key_of x i
  unfolding key_of
  listed i h = listed_at places x 0 61 n (place_of x) holds i h ∙ rw (add-zero (place_of x i))

  -- they lie inside
  pub keys-inside : ((i : ℕ) → i < n → place_of x i + 74 ≤ length x) → Inside places (anywhere 0 61) x n
  keys-inside inside = listed-inside places x 0 61 n (place_of x) holds (λ i h. omega (arith, inside i h))

  -- and the first that repeats tells of the units'
  pub keys-by : n ≡ units_in x → repeat_told n (least (repeats_in (key_in places (anywhere 0 61) x)) n) ≡ keys_told x
  unfolding keys_told
  keys-by all = rw (← all) (ap (repeat_told n) (first-same _ _ n listed))
