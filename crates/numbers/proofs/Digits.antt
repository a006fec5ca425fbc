-- Digits by their place.
-- Assumes nothing.
use Prim.Native.Nat.{ℕ, zero, suc, ◌+◌, ◌-◌, ◌/◌, ◌%◌, ◌≤◌, ◌<◌}
use mathlib.Core.List.{[], ◌∷◌}
use mathlib.Core.Path.{◌≡◌, ◌∙◌, ap}
use native.Mathlib.Nat.{not-suc-le-zero}
use native.Mathlib.Omega.{arith}
use lib.ListN.{get_or, get_or-append, get_or-eq_default}
use lib.Seq.{get_or_at}
use Rattle.numbers.specs.Numbers.{digits_of}
use Rattle.numbers.proofs.Values.{digits-length}

-- a digit but the last is one of a tenth; the last is the remainder; past the digits there is nothing
pub digit-before : (w n d : ℕ) → d < w → get_or (digits_of (suc w) n) d 0 ≡ get_or (digits_of w (n / 10)) d 0
unfolding digits_of
digit-before w n d h = get_or-append (digits_of w (n / 10)) ((0x30 + n % 10) ∷ []) 0 d (rw digits-length h)

pub digit-last : (w n : ℕ) → get_or (digits_of (suc w) n) w 0 ≡ 0x30 + n % 10
unfolding digits_of
digit-last w n = get_or_at (digits_of w (n / 10)) (0x30 + n % 10) [] 0 w (digits-length w (n / 10))

pub digit-past : (w n d : ℕ) → w ≤ d → get_or (digits_of w n) d 0 ≡ 0
digit-past w n d h = get_or-eq_default (digits_of w n) 0 (rw digits-length h)

pub digit-down : (w n d : ℕ) → d + 1 < w → get_or (digits_of w n) d 0 ≡ get_or (digits_of (w - 1) (n / 10)) d 0
digit-down zero n d h = absurd (not-suc-le-zero h)
digit-down (suc w) n d h = digit-before w n d (omega arith) ∙ ap (λ (v : ℕ). get_or (digits_of v (n / 10)) d 0) (omega arith)

pub digit-here : (w n d : ℕ) → d < w → w ≤ d + 1 → get_or (digits_of w n) d 0 ≡ 0x30 + n % 10
digit-here w n d h l = let e : w ≡ suc d = omega arith in rw e (digit-last d n)
