-- A date as a number: none is before 1 January 2000, and none is after 31 December 2099.
-- Assumes nothing.
use Prim.Native.Nat.{ℕ, ◌+◌, ◌*◌, ◌≤◌, ◌<◌}
use mathlib.Core.Bool.{true, ◌&&◌}
use mathlib.Core.List.{List}
use mathlib.Core.Path.{◌≡◌, refl, ap}
use mathlib.Core.Logic.{⊎_elim}
use native.Mathlib.Omega.{arith}
use borrow.Author.Tests.{leb-true, ltb-true, ltb-false, ne_eqb}
use lib.Dec.{leb, eqb, ltb}
use lib.ListN.{length, get_or, get_or-eq_default}
use Rattle.laws.specs.Part.{part}
use Rattle.laws.proofs.Bools.{and_left, and_right, either}
use Rattle.laws.proofs.Every.{every, every-at}
use Rattle.laws.proofs.Parts.{part_length, part_at}
use Rattle.text.specs.Characters.{digits}
use Rattle.numbers.specs.Numbers.{digit_of, value_to, value_of}
use Rattle.numbers.specs.Dates.{month_days, leap_day, days_of, has_day, is_date}
use Rattle.numbers.proofs.Values.{is_date-length, value-size}

-- what digit i of s counts
digit : List ℕ → ℕ → ℕ
digit s i = digit_of (get_or s i 0)

-- two bytes of s, and all six, as numbers
two-value : (at : ℕ) (s : List ℕ) → at + 2 ≤ length s → value_of (part at 2 s) ≡ digit s at * 10 + digit s (at + 1)
unfolding value_of value_to digit
two-value at s h =
    let first : digit_of (get_or s (at + 0) 0) ≡ digit_of (get_or s at 0) = ap (λ (i : ℕ). digit_of (get_or s i 0)) (omega arith) in
    rw (part_length at 2 s h, part_at at 2 s 0 (omega arith), part_at at 2 s 1 (omega arith)) (omega (arith, first))

all-value : (s : List ℕ) → length s ≡ 6 → value_of s ≡ digit s 0 * 100000 + digit s 1 * 10000 + digit s 2 * 1000 + digit s 3 * 100 + digit s 4 * 10 + digit s 5
unfolding value_of value_to digit
all-value s e = rw e (omega arith)

-- six bytes are three times two
pub six-value : (s : List ℕ) → length s ≡ 6 → value_of s ≡ value_of (part 0 2 s) * 10000 + value_of (part 2 2 s) * 100 + value_of (part 4 2 s)
six-value s e = omega (arith, all-value s e, two-value 0 s (omega arith), two-value 2 s (omega arith), two-value 4 s (omega arith))

-- no month has more than 31 days, and past the twelfth none has any
most-days : every (λ d. leb d 31) month_days ≡ true
unfolding month_days
most-days = refl

month-days : (month : ℕ) → get_or month_days month 0 ≤ 31
unfolding month_days
month-days month =
    ⊎_elim (λ t. leb-true (get_or month_days month 0) 31 (every-at (λ d. leb d 31) month_days most-days month 0 (ltb-true month 13 t)))
    (λ f. rw (get_or-eq_default month_days 0 (ltb-false month 13 f)) (omega arith)) (either (ltb month 13))

days-most : (year month : ℕ) → days_of year month ≤ 31
unfolding days_of
days-most year month = ⊎_elim (λ t. rw t (omega arith)) (λ f. rw f (month-days month)) (either (leap_day year month))

days-past : (year month : ℕ) → 12 < month → days_of year month ≡ 0
unfolding days_of leap_day month_days
days-past year month h = rw (ne_eqb month 2 (λ e. omega arith)) (get_or-eq_default month_days 0 h)

-- a date: at least the first day of a month up to the twelfth
module _ (s : List ℕ) (t : is_date s ≡ true) where
  abbrev year : ℕ
  year = value_of (part 0 2 s)

  abbrev month : ℕ
  month = value_of (part 2 2 s)

  abbrev day : ℕ
  day = value_of (part 4 2 s)

  has : has_day year month day ≡ true
  unfolding is_date
  has = and_right (eqb (length s) 6 && digits s) (has_day year month day) t

  day-least : 1 ≤ day
  unfolding has_day
  day-least = leb-true 1 day (and_left (leb 1 day) (leb day (days_of year month)) has)

  day-most : day ≤ days_of year month
  unfolding has_day
  day-most = leb-true day (days_of year month) (and_right (leb 1 day) (leb day (days_of year month)) has)

  month-most : month ≤ 12
  month-most =
      ⊎_elim (λ l. absurd (omega (arith, days-past year month (ltb-true 12 month l), day-least, day-most)))
      (λ f. ltb-false 12 month f) (either (ltb 12 month))

  value : value_of s ≡ year * 10000 + month * 100 + day
  value = six-value s (is_date-length s t)

  year-most : year < 100
  year-most = value-size (part 0 2 s) 2 (part_length 0 2 s (omega (arith, is_date-length s t)))

  -- its number is read
  pub date-fits : length s ≤ 19
  date-fits = omega (arith, is_date-length s t)

  -- and is not 0
  pub date-some : value_of s ≡ 0 → ⊥
  date-some z = omega (arith, value, day-least)

  -- and none is after the last date of all
  pub date-most : value_of s ≤ 991231
  date-most = omega (arith, value, year-most, month-most, day-most, days-most year month)
