-- The least that a part payment may take.
-- Assumes nothing.
use Prim.Native.Nat.{ℕ}
use mathlib.Core.List.{[], ◌∷◌, map}
use mathlib.Core.Path.{◌≡◌, refl}
use Rattle.agreement.specs.Amounts.{base_of}

-- of type "0" it is the least amount that may be asked
pub base-zero : (least : ℕ) → base_of least 0x30 ≡ least
unfolding base_of
base-zero least = refl

-- of types "2" to "6" it is 1,000 to 5,000, as the paper lists them: one computed test
pub bases-listed : (least : ℕ) → map (base_of least) (0x32 ∷ 0x33 ∷ 0x34 ∷ 0x35 ∷ 0x36 ∷ []) ≡ 1000 ∷ 2000 ∷ 3000 ∷ 4000 ∷ 5000 ∷ []
unfolding base_of
bases-listed least = refl
