-- The contents of a day file: the form, two digits for how many bodies, and for each its name and the digits of its length, five
-- in form "1" and six in form "2". The form is "2" where a body has more than 99,999 bytes, and "1" where none has.
use Rattle.std.specs.Prelude.{ℕ, ◌+◌, ◌*◌, Bool, cond, not, ◌&&◌, List, leb, eqb, length, get_or, drop}
use Rattle.laws.specs.Least.{none}
use Rattle.laws.specs.Part.{part}
use Rattle.text.specs.Characters.{digits}
use Rattle.numbers.specs.Numbers.{value_of}
use Rattle.keys.specs.declared.stands.Spacing.{Spacing}

-- the form bytes, "1" and "2"
abbrev pub form_one : ℕ
form_one = 0x31

abbrev pub form_two : ℕ
form_two = 0x32

-- the digits of a length in a form: six in "2", else five
unfoldable pub width_of : ℕ → ℕ
width_of form = cond (eqb form form_two) 6 5

-- five digits do not say the length of body i + 1; the form for n lengths, and its digits
unfoldable pub long_at : (ℕ → ℕ) → ℕ → Bool
long_at size i = leb 100000 (size i)

unfoldable pub form_for : (ℕ → ℕ) → ℕ → ℕ
form_for size n = cond (none (long_at size) n) form_one form_two

abbrev pub width_for : (ℕ → ℕ) → ℕ → ℕ
width_for size n = width_of (form_for size n)

-- the most bodies
abbrev pub most : ℕ
most = 16

-- bytes of the form and the count
abbrev pub front : ℕ
front = 3

-- a length of six digits is below this
abbrev pub length_end : ℕ
length_end = 1000000

-- where the entry of body i + 1 begins, a name of 8 bytes and the digits; so the contents of i bodies end here
abbrev pub entry_at : ℕ → ℕ → ℕ
entry_at width i = i * (8 + width) + front

-- so the names are keys at a fixed distance
abbrev pub names_at : ℕ → Spacing
names_at width = record { stride = 8 + width; offset = front; size = 8 }

-- the digits of a length, by the first byte; how many bodies; where the contents end
unfoldable pub width_in : List ℕ → ℕ
width_in s = width_of (get_or s 0 0)

unfoldable pub count_in : List ℕ → ℕ
count_in s = value_of (part 1 2 s)

abbrev pub end_in : List ℕ → ℕ
end_in s = entry_at (width_in s) (count_in s)

-- the name of body i + 1, the digits of its length, and its length
unfoldable pub name_in : List ℕ → ℕ → List ℕ
name_in s i = part (entry_at (width_in s) i) 8 s

unfoldable pub digits_in : List ℕ → ℕ → List ℕ
digits_in s i = part (entry_at (width_in s) i + 8) (width_in s) s

unfoldable pub length_in : List ℕ → ℕ → ℕ
length_in s i = value_of (digits_in s i)

-- the bodies: all that stands behind the contents
unfoldable pub bodies_in : List ℕ → List ℕ
bodies_in s = drop (end_in s) s

-- a form and two digits; then as many entries as these say, at most 16; digits for each length; and the form that the lengths need
unfoldable pub front_good : List ℕ → Bool
front_good s = leb front (length s) && digits (part 1 2 s)

unfoldable pub table_good : List ℕ → ℕ → Bool
table_good s n = leb n most && leb (entry_at (width_in s) n) (length s)

unfoldable pub bad_length : List ℕ → ℕ → Bool
bad_length s i = not (digits (digits_in s i))

unfoldable pub form_good : List ℕ → ℕ → Bool
form_good s n = eqb (get_or s 0 0) (form_for (length_in s) n)

unfoldable pub contents_good : List ℕ → Bool
contents_good s = front_good s && (table_good s (count_in s) && (none (bad_length s) (count_in s) && form_good s (count_in s)))
