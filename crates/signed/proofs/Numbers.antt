-- The laws of numbers in base 256: what w bytes say is below 256 ^ w, and not below the power before it where the first is not 0.
-- Assumes nothing.
use Prim.Native.Nat.{ℕ, zero, suc, ◌+◌, ◌*◌, ◌^◌, ◌≤◌, ◌<◌}
use mathlib.Core.List.{List, [], ◌∷◌}
use mathlib.Core.Path.{◌≡◌, refl}
use native.Mathlib.Nat.{not-suc-le-zero, le_trans, le-add_right, mul-le-mul_right, lt_of_lt_of_le, pow-le-pow_right, pow-suc}
use native.Mathlib.Numerals.{add-one}
use native.Mathlib.Omega.{arith}
use lib.Arith.{digits_lt}
use lib.ListN.{length, get_or}
use Rattle.signed.specs.Shape.{number_to}

-- a loop that reads a number: `number_to s i` so far
pub number-start : (s : List ℕ) → number_to s 0 ≡ 0
unfolding number_to
number-start s = refl

pub number_more : (s : List ℕ) (i : ℕ) → number_to s (i + 1) ≡ number_to s i * 256 + get_or s i 0
unfolding number_to
number_more s i = rw add-one

-- one byte more
pub below_more : (n i b : ℕ) → n < 256 ^ i → b < 256 → n * 256 + b < 256 ^ (i + 1)
below_more n i b h k = rw (add-one, pow-suc) (digits_lt h k)

pub below-within : (n i w : ℕ) → n < 256 ^ i → i ≤ w → n < 256 ^ w
below-within n i w h l = lt_of_lt_of_le h (pow-le-pow_right (omega arith) l)

-- where the first byte is not 0 there is one
pub some-digit : (s : List ℕ) → 0 < get_or s 0 0 → 0 < length s
some-digit [] h = absurd (not-suc-le-zero h)
some-digit (x ∷ s) h = omega arith

-- the first byte counts its highest power
pub number-least : (s : List ℕ) → 0 < get_or s 0 0 → (w : ℕ) → 256 ^ w ≤ number_to s (suc w)
unfolding number_to
number-least s h zero = omega arith
number-least s h (suc w) = rw pow-suc (le_trans (mul-le-mul_right 256 (number-least s h w)) (le-add_right _ _))
