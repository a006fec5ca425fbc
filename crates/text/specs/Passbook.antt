-- What a passbook shows of a debit, as a request gives it: sixteen bytes in one of three forms.
use Rattle.std.specs.Prelude.{ℕ, ◌+◌, ◌-◌, ◌*◌, ◌<◌, Bool, true, cond, ◌&&◌, ◌||◌, List, [], ◌∷◌, ◌≡◌, eqb, length, get_or, drop}
use Rattle.laws.specs.Part.{part, begins}
use Rattle.text.specs.declared.characters.Set.TheVariants.{OneByte}
use Rattle.text.specs.Characters.{within, takes, two_byte, one_byte}

-- a mark, then n two-byte characters, then m one-byte characters, and no byte more
unfoldable pub setting : List ℕ → ℕ → ℕ → List ℕ → Bool
setting mark n m s =
    eqb (length s) (length mark + 2 * n + m) && (begins mark s && (two_byte (part (length mark) (2 * n) s) && one_byte (drop (length mark + 2 * n) s)))

-- eight two-byte characters
unfoldable pub two_byte_form : List ℕ → Bool
two_byte_form s = setting [] 8 0 s

-- "00" and fourteen one-byte characters
unfoldable pub one_byte_form : List ℕ → Bool
one_byte_form s = setting (0x30 ∷ 0x30 ∷ []) 0 14 s

-- "A" and a digit k from 2 to 5, then k two-byte characters and 14 minus 2k one-byte characters
unfoldable pub mixed_with : ℕ → List ℕ → Bool
mixed_with k s = within 2 5 k && setting (0x41 ∷ (0x30 + k) ∷ []) k (14 - 2 * k) s

-- k is what the second byte says
unfoldable pub mixed_form : List ℕ → Bool
mixed_form s = mixed_with (get_or s 1 0 - 0x30) s

-- one of the three
unfoldable pub passbook_form : List ℕ → Bool
passbook_form s = two_byte_form s || (one_byte_form s || mixed_form s)

-- how many of the three a text has
unfoldable pub forms_of : List ℕ → ℕ
forms_of s = cond (two_byte_form s) 1 0 + (cond (one_byte_form s) 1 0 + cond (mixed_form s) 1 0)

-- what a setting says, byte by byte
pub record SetAs (mark : List ℕ) (n m : ℕ) (s : List ℕ) : Type 0 where
  pub long : length s ≡ length mark + 2 * n + m
  pub marked : part 0 (length mark) s ≡ mark
  pub two : (i : ℕ) → i < 2 * n → within 0xA1 0xFE (get_or s (length mark + i) 0) ≡ true
  pub one : (i : ℕ) → i < m → takes OneByte (get_or s (length mark + 2 * n + i) 0) ≡ true
