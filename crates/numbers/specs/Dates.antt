-- Dates, YYMMDD for 20YY, and YYYYMMDD.
use Rattle.std.specs.Prelude.{ℕ, ◌%◌, Bool, cond, ◌&&◌, List, [], ◌∷◌, leb, eqb, length, get_or, drop}
use Rattle.laws.specs.Part.{part}
use Rattle.text.specs.Characters.{digits}
use Rattle.numbers.specs.Numbers.{value_of}

-- the days of months 00 to 12; there is no month 00, so it has none
unfoldable pub month_days : List ℕ
month_days = 0 ∷ 31 ∷ 28 ∷ 31 ∷ 30 ∷ 31 ∷ 30 ∷ 31 ∷ 31 ∷ 30 ∷ 31 ∷ 30 ∷ 31 ∷ []

-- February of a year divisible by 4 has 29 days
unfoldable pub leap_day : ℕ → ℕ → Bool
leap_day year month = eqb month 2 && eqb (year % 4) 0

-- how many days a month has; past month 12 none
unfoldable pub days_of : ℕ → ℕ → ℕ
days_of year month = cond (leap_day year month) 29 (get_or month_days month 0)

-- the month has this day
unfoldable pub has_day : ℕ → ℕ → ℕ → Bool
has_day year month day = leb 1 day && leb day (days_of year month)

-- a date YYMMDD
unfoldable pub is_date : List ℕ → Bool
is_date s = eqb (length s) 6 && digits s && has_day (value_of (part 0 2 s)) (value_of (part 2 2 s)) (value_of (part 4 2 s))

-- a date, not later than the other
unfoldable pub not_later : List ℕ → List ℕ → Bool
not_later s t = is_date s && leb (value_of s) (value_of t)

-- a date YYYYMMDD of the years 2000 to 2099
unfoldable pub of2000 : List ℕ → Bool
of2000 s = eqb (get_or s 0 0) 0x32 && eqb (get_or s 1 0) 0x30

unfoldable pub is_long_date : List ℕ → Bool
is_long_date s = of2000 s && is_date (drop 2 s)
