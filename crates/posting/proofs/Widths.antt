-- How many digits a number has.
-- Assumes nothing.
use Prim.Native.Nat.{ℕ, suc, ◌+◌, ◌*◌, ◌/◌, ◌^◌, ◌≤◌, ◌<◌}
use mathlib.Core.List.{[], ◌∷◌}
use mathlib.Core.Path.{◌≡◌, refl, sym, ◌∙◌}
use native.Mathlib.Nat.{le_trans, mul_comm, pow-suc, one-le-pow, pow-le-pow_right, div-lt_iff_lt-mul, div-div-eq-div-mul}
use native.Mathlib.Numerals.{add-one}
use native.Mathlib.Omega.{arith}
use Rattle.std.proofs.Common.{lit<}
use Rattle.std.proofs.lemmas.Nat.{le-div}
use borrow.Author.Tests.{lt-ltb, le-ltb}
use lib.ListN.{length, length-append}
use Rattle.laws.specs.Least.{least}
use Rattle.laws.proofs.Leasts.{least-is, least-only}
use Rattle.numbers.specs.Numbers.{digits_of}
use Rattle.numbers.proofs.Values.{digits-length}
use Rattle.posting.specs.Decimal.{last_left, width_of, decimal}
use Rattle.posting.specs.Lines.{number_then}

-- one more digit taken off
pub tenth : (n w : ℕ) → n / 10 ^ (w + 1) ≡ n / 10 ^ w / 10
tenth n w = rw (add-one, pow-suc) (sym (div-div-eq-div-mul n (10 ^ w) 10))

-- the highest power of ten in a number says how many digits it has
pub width-log : (n d : ℕ) → d < 20 → 10 ^ d ≤ n → n < 10 * 10 ^ d → width_of n ≡ d + 1
unfolding last_left width_of
width-log n d few low high =
    rw (least-only (last_left n) 19 (least (last_left n) 19) d (least-is (last_left n) 19) (record {
      within = omega arith;
      holds = λ _. lt-ltb (n / 10 ^ d) 10 ((div-lt_iff_lt-mul (pos d)).1 high);
      before = λ k h. le-ltb (n / 10 ^ k) 10 (le-div 10 n (10 ^ k) (pos k) (more k h));
    }))
  where
    pos : (k : ℕ) → 0 < 10 ^ k
    pos k = one-le-pow k 10 (lit< tt)

    more : (k : ℕ) → k < d → 10 * 10 ^ k ≤ n
    more k h = let p : 10 ^ suc k ≤ 10 ^ d = pow-le-pow_right (lit< tt) h in rw (mul_comm 10 (10 ^ k), ← pow-suc 10 k) (le_trans p low)

-- and 0 has one
pub width-zero : width_of 0 ≡ 1
unfolding last_left width_of
width-zero = rw (least-only (last_left 0) 19 (least (last_left 0) 19) 0 (least-is (last_left 0) 19) (record {
  within = omega arith;
  holds = λ _. refl;
  before = λ k h. absurd (omega arith);
}))

-- a number and its end: how long
module _ (n end w : ℕ) (wide : w ≡ width_of n) where
  pub number-length : length (number_then n end) ≡ w + 1
  unfolding number_then decimal
  number-length = length-append (digits_of (width_of n) n) (end ∷ []) ∙ rw (digits-length, ← wide)
