-- A rule of a table, proved at all of its entries by one test that is computed.
-- Assumes nothing.
use Prim.Native.Nat.{ℕ, zero, suc, ◌<◌}
use mathlib.Core.Bool.{Bool, true, ◌&&◌}
use mathlib.Core.List.{List, [], ◌∷◌}
use mathlib.Core.Path.{◌≡◌}
use native.Mathlib.Nat.{le_of_suc-le-suc, not-suc-le-zero}
use lib.ListN.{length, get_or}
use Rattle.laws.proofs.Bools.{and_left, and_right}

abbrev pub every {ℓ} : {A : Type ℓ} → (A → Bool) → List A → Bool
every p [] = true
every p (x ∷ xs) = p x && every p xs

pub every-at {ℓ} : {A : Type ℓ} (p : A → Bool) (l : List A) → every p l ≡ true → (i : ℕ) (d : A) → i < length l → p (get_or l i d) ≡ true
every-at p [] t i d h = absurd (not-suc-le-zero h)
every-at p (x ∷ xs) t zero d h = and_left (p x) (every p xs) t
every-at p (x ∷ xs) t (suc i) d h = every-at p xs (and_right (p x) (every p xs) t) i d (le_of_suc-le-suc h)
