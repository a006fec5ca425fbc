-- The laws of numbers in base ten: what w bytes say is below 10 ^ w, and digits and their number undo each other.
-- Assumes nothing.
use Prim.Native.Nat.{ℕ, zero, suc, ◌+◌, ◌-◌, ◌*◌, ◌/◌, ◌%◌, ◌^◌, ◌≤◌, ◌<◌}
use mathlib.Core.Bool.{true, ◌&&◌}
use mathlib.Core.List.{List, [], ◌∷◌, ◌++◌}
use mathlib.Core.Path.{◌≡◌, refl, sym, ◌∙◌, ap}
use mathlib.Core.Logic.{⊎_elim}
use native.Mathlib.Nat.{le_refl, le_of_eq, eq-or-lt_of_le, le_of_suc-le-suc, not-suc-le-zero, lt_of_lt_of_le, pow-le-pow_right, pow-suc, div-lt_iff_lt-mul}
use native.Mathlib.Numerals.{add-one}
use native.Mathlib.Omega.{arith}
use borrow.Author.Tests.{eqb-true, eq-eqb, ne_eqb, ltb-true, ltb-false, le-leb}
use lib.Arith.{digits_lt, digits_div, digits_mod}
use lib.Dec.{leb, eqb, ltb}
use lib.ListN.{length, get_or, take, length-append, get_or-append}
use lib.Seq.{take-suc, take-length, get_or_at}
use Rattle.laws.proofs.Bools.{and_left, and_right, either}
use Rattle.laws.proofs.Parts.{part_length}
use Rattle.text.specs.Characters.{within, digits, zeros}
use Rattle.numbers.specs.Numbers.{digit_of, value_to, value_of, digits_of, says}
use Rattle.numbers.specs.Dates.{has_day, is_date}
use Rattle.laws.specs.Part.{part}
use Rattle.text.proofs.Classes.{within_low, within-high, within-if, each_at, each-if}

-- a digit counts its number, at most 9
pub digit_of-is : (b : ℕ) → within 0x30 0x39 b ≡ true → digit_of b ≡ b - 0x30
unfolding digit_of
digit_of-is b t = rw t

pub digit_of-small : (b : ℕ) → digit_of b ≤ 9
unfolding digit_of
digit_of-small b = ⊎_elim (λ t. rw t (omega (arith, within-high 0x30 0x39 b t))) (λ f. rw f (omega arith)) (either (within 0x30 0x39 b))

-- a loop that reads a number: `value_to s i` so far
pub value-start : (s : List ℕ) → value_to s 0 ≡ 0
unfolding value_to
value-start s = refl

pub value-more : (s : List ℕ) (i : ℕ) → value_to s (i + 1) ≡ value_to s i * 10 + digit_of (get_or s i 0)
unfolding value_to
value-more s i = rw add-one

pub value-below : (s : List ℕ) (w : ℕ) → value_to s w < 10 ^ w
unfolding value_to
value-below s zero = omega arith
value-below s (suc w) = rw pow-suc (digits_lt (value-below s w) (omega (arith, digit_of-small (get_or s w 0))))

pub value-within : (s : List ℕ) (i w : ℕ) → i ≤ w → value_to s i < 10 ^ w
value-within s i w h = lt_of_lt_of_le (value-below s i) (pow-le-pow_right (omega arith) h)

-- the w digits of n are w bytes, each a digit
pub digits-length : (w n : ℕ) → length (digits_of w n) ≡ w
unfolding digits_of
digits-length zero n = refl
digits-length (suc w) n = length-append (digits_of w (n / 10)) ((0x30 + n % 10) ∷ []) ∙ rw (digits-length w (n / 10)) (add-one w)

digits-at : (w n k : ℕ) → k < w → within 0x30 0x39 (get_or (digits_of w n) k 0) ≡ true
unfolding digits_of
digits-at zero n k h = absurd (not-suc-le-zero h)
digits-at (suc w) n k h = ⊎_elim last (λ l. rw (get_or-append (digits_of w (n / 10)) ((0x30 + n % 10) ∷ []) 0 k (front l)) (digits-at w (n / 10) k l)) (eq-or-lt_of_le (le_of_suc-le-suc h))
  where
    front : k < w → k < length (digits_of w (n / 10))
    front l = rw digits-length l

    last : k ≡ w → within 0x30 0x39 (get_or (digits_of w (n / 10) ++ ((0x30 + n % 10) ∷ [])) k 0) ≡ true
    last e = rw (e, get_or_at (digits_of w (n / 10)) (0x30 + n % 10) [] 0 w (digits-length w (n / 10))) (within-if 0x30 0x39 (0x30 + n % 10) (omega arith) (omega arith))

pub digits_are : (w n : ℕ) → digits (digits_of w n) ≡ true
unfolding digits
digits_are w n = each-if 0x30 0x39 (digits_of w n) (λ k h. digits-at w n k (rw digits-length at h))

-- what stands behind the first w bytes does not count
value-prefix : (s t : List ℕ) (w : ℕ) → w ≤ length s → value_to (s ++ t) w ≡ value_to s w
unfolding value_to
value-prefix s t zero h = refl
value-prefix s t (suc w) h = rw (value-prefix s t w (omega arith), get_or-append s t 0 w h)

-- the number of the digits of a number
value-digits-to : (w n : ℕ) → n < 10 ^ w → value_to (digits_of w n) w ≡ n
unfolding value_to digits_of
value-digits-to zero n h = omega arith
value-digits-to (suc w) n h =
    rw (
      value-prefix (digits_of w (n / 10)) ((0x30 + n % 10) ∷ []) w (rw digits-length (le_refl w)),
      value-digits-to w (n / 10) ((div-lt_iff_lt-mul (omega arith)).1 (rw pow-suc at h)),
      get_or_at (digits_of w (n / 10)) (0x30 + n % 10) [] 0 w (digits-length w (n / 10)),
      digit_of-is (0x30 + n % 10) (within-if 0x30 0x39 (0x30 + n % 10) (omega arith) (omega arith)),
    ) (omega arith)

pub value-digits : (w n : ℕ) → n < 10 ^ w → value_of (digits_of w n) ≡ n
unfolding value_of
value-digits w n h = rw digits-length (value-digits-to w n h)

-- the digits of the number of digits
digits-value-to : (s : List ℕ) → digits s ≡ true → (w : ℕ) → w ≤ length s → digits_of w (value_to s w) ≡ take w s
unfolding value_to digits_of digits
digits-value-to s t zero h = refl
digits-value-to s t (suc w) h =
    let d = digit_of (get_or s w 0) in
    let is = each_at 0x30 0x39 s t w h in
    let small : d < 10 = omega (arith, digit_of-small (get_or s w 0)) in
    rw (
      digits_div (value_to s w) small,
      digits_mod (value_to s w) small,
      digits-value-to s t w (omega arith),
      digit_of-is (get_or s w 0) is,
      take-suc s w 0 h,
    ) (ap (λ (b : ℕ). take w s ++ (b ∷ [])) (omega (arith, within_low 0x30 0x39 (get_or s w 0) is)))

pub digits_value : (s : List ℕ) → digits s ≡ true → digits_of (length s) (value_of s) ≡ s
unfolding value_of
digits_value s t = digits-value-to s t (length s) (le_refl (length s)) ∙ take-length s

-- so digits that say the same are the same
pub digits_same : (x y : List ℕ) → digits x ≡ true → digits y ≡ true → length x ≡ length y → value_of x ≡ value_of y → x ≡ y
digits_same x y t u long e = sym (digits_value x t) ∙ rw (long, e) (digits_value y u)

-- a date has six bytes
pub is_date-length : (s : List ℕ) → is_date s ≡ true → length s ≡ 6
unfolding is_date
is_date-length s t =
    eqb-true (length s) 6
    (and_left (eqb (length s) 6) (digits s) (and_left (eqb (length s) 6 && digits s) (has_day (value_of (part 0 2 s)) (value_of (part 2 2 s)) (value_of (part 4 2 s))) t))

-- w bytes say a number below 10 ^ w
pub value-size : (s : List ℕ) (w : ℕ) → length s ≡ w → value_of s < 10 ^ w
unfolding value_of
value-size s w e = value-within s (length s) w (le_of_eq e)

-- digits of no value are all "0"
value-zero : (s : List ℕ) (w : ℕ) → value_to s w ≡ 0 → (k : ℕ) → k < w → digit_of (get_or s k 0) ≡ 0
unfolding value_to
value-zero s zero e k h = absurd (not-suc-le-zero h)
value-zero s (suc w) e k h = ⊎_elim (λ q. rw q (omega arith)) (λ l. value-zero s w (omega arith) k l) (eq-or-lt_of_le (le_of_suc-le-suc h))

pub zeros-if : (s : List ℕ) → digits s ≡ true → value_of s ≡ 0 → zeros s ≡ true
unfolding digits zeros value_of
zeros-if s t e = each-if 0x30 0x30 s place
  where
    place : (k : ℕ) → k < length s → within 0x30 0x30 (get_or s k 0) ≡ true
    place k h =
        let is = each_at 0x30 0x39 s t k h in
        within-if 0x30 0x30 (get_or s k 0) (within_low 0x30 0x39 (get_or s k 0) is)
        (omega (arith, digit_of-is (get_or s k 0) is, value-zero s (length s) e k h))

-- w digits of a number say it exactly when it has no more
pub says-within : (w n : ℕ) → w ≤ 19 → says (digits_of w n) n ≡ ltb n (10 ^ w)
unfolding says
says-within w n h =
    rw (digits-length w n, le-leb w 19 h, digits_are w n)
    (⊎_elim
    (λ t. rw (value-digits w n (ltb-true n (10 ^ w) t)) (eq-eqb n n refl ∙ sym t))
    (λ f. ne_eqb (value_of (digits_of w n)) n (λ e. absurd (omega (arith, e, value-size (digits_of w n) w (digits-length w n), ltb-false n (10 ^ w) f))) ∙ sym f)
    (either (ltb n (10 ^ w))))

-- the digits of a number
pub says_is : (n w : ℕ) (x : List ℕ) → length x ≡ w → says x n ≡ true → x ≡ digits_of w n
unfolding says
says_is n w x l t =
    let d = and_right (leb (length x) 19) (digits x && eqb (value_of x) n) t in
    rw (← l, ← eqb-true (value_of x) n (and_right (digits x) (eqb (value_of x) n) d)) (sym (digits_value x (and_left (digits x) (eqb (value_of x) n) d)))

pub says-part : (n at w : ℕ) (s : List ℕ) → at + w ≤ length s → says (part at w s) n ≡ true → part at w s ≡ digits_of w n
says-part n at w s h t = says_is n w (part at w s) (part_length at w s h) t
