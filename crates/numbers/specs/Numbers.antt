-- Numbers that bytes say.
use Rattle.std.specs.Prelude.{ℕ, zero, suc, ◌+◌, ◌-◌, ◌*◌, ◌/◌, ◌%◌, Bool, cond, ◌&&◌, List, [], ◌∷◌, ◌++◌, leb, eqb, length, get_or}
use Rattle.text.specs.Characters.{within, digits}

-- what one byte counts: a digit its number, any other byte 0
unfoldable pub digit_of : ℕ → ℕ
digit_of b = cond (within 0x30 0x39 b) (b - 0x30) 0

-- the number that the first w bytes say in base ten
unfoldable pub value_to : List ℕ → ℕ → ℕ
value_to s zero = 0
value_to s (suc w) = value_to s w * 10 + digit_of (get_or s w 0)

-- the number that s says in base ten
unfoldable pub value_of : List ℕ → ℕ
value_of s = value_to s (length s)

-- s is digits that say n; nobody writes a number of more than 19 digits
unfoldable pub says : List ℕ → ℕ → Bool
says s n = leb (length s) 19 && (digits s && eqb (value_of s) n)

-- the w digits of n
unfoldable pub digits_of : ℕ → ℕ → List ℕ
digits_of zero n = []
digits_of (suc w) n = digits_of w (n / 10) ++ ((0x30 + n % 10) ∷ [])

-- four bytes as one number, the first of them highest
unfoldable pub word_of : List ℕ → ℕ
word_of s = ((get_or s 0 0 * 256 + get_or s 1 0) * 256 + get_or s 2 0) * 256 + get_or s 3 0

-- letter d of a word: the four bytes again
unfoldable pub letter_of : ℕ → ℕ → ℕ
letter_of word d = cond (eqb d 0) (word / 0x1000000 % 256) (cond (eqb d 1) (word / 0x10000 % 256) (cond (eqb d 2) (word / 0x100 % 256) (word % 256)))
