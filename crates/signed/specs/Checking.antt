-- Whether bytes have the frame of signed evidence.
use Rattle.std.specs.Prelude.{ℕ, zero, suc, ◌+◌, ◌-◌, ◌%◌, Bool, true, false, cond, not, ◌&&◌, ◌||◌, List, ◌∷◌, leb, ltb, eqb, length, get_or, drop, Option, None, Some}
use Rattle.laws.specs.Part.{part, begins}
use Rattle.signed.specs.Shape.{levels, list_bit, number_of, identifier}

-- how many bytes tag and length take, and how many the length says that follow
unfoldable pub front_of : List ℕ → ℕ
front_of s = 2 + (get_or s 1 0 - 128)

unfoldable pub said_in : List ℕ → ℕ
said_in s = cond (ltb (get_or s 1 0) 128) (get_or s 1 0) (number_of (part 2 (get_or s 1 0 - 128) s))

-- the length has the shortest form
unfoldable pub is_shortest : List ℕ → Bool
is_shortest s = ltb (get_or s 1 0) 128 || (ltb (get_or s 1 0) 255 && (ltb 0 (get_or s 2 0) && leb 128 (said_in s)))

-- s begins with a tag of one byte, a length in the shortest form and as many bytes
unfoldable pub is_framed : List ℕ → Bool
is_framed s = not (eqb (get_or s 0 0 % 32) 31) && (is_shortest s && leb (front_of s + said_in s) (length s))

-- how many bytes these are in all; 0 where s does not begin so
unfoldable pub framed_in : List ℕ → ℕ
framed_in s = cond (is_framed s) (front_of s + said_in s) 0

-- a size as what is there or not: 0 is none
abbrev pub some_size : ℕ → Option ℕ
some_size zero = None
some_size (suc n) = Some (suc n)

unfoldable pub contents_in : List ℕ → List ℕ
contents_in s = part (front_of s) (said_in s) s

-- s is taken off value by value, at most n of them, by a function that says how many bytes the first has; 0 says that there is none
unfoldable pub taken_off : (List ℕ → ℕ) → ℕ → List ℕ → Bool
taken_off size zero s = eqb (length s) 0
taken_off size (suc n) s = cond (eqb (length s) 0) true (cond (eqb (size s) 0) false (taken_off size n (drop (size s) s)))

-- s is values one after the other
unfoldable pub is_list : (List ℕ → ℕ) → List ℕ → Bool
is_list size s = taken_off size (length s) s

-- how many bytes the value has with which s begins, where so many levels may still be nested, its own among them; 0: there is none
unfoldable pub size_within : ℕ → List ℕ → ℕ
size_within zero s = 0
size_within (suc left) s = cond (eqb (list_bit (get_or s 0 0)) 0 || is_list (size_within left) (contents_in s)) (framed_in s) 0

-- s is one value with this tag, its contents not looked at
unfoldable pub is_one : ℕ → List ℕ → Bool
is_one tag s = eqb (get_or s 0 0) tag && (ltb 0 (framed_in s) && eqb (framed_in s) (length s))

-- the object identifier as a value: its tag, its length, its contents
abbrev pub identified : List ℕ
identified = 0x06 ∷ 0x09 ∷ identifier

-- one value tagged A0 that holds one sequence, and this values of level 4: three levels are used up
unfoldable pub holds_sequence : List ℕ → Bool
holds_sequence s = is_one 0xA0 s && (is_one 0x30 (contents_in s) && is_list (size_within (levels - 3)) (contents_in (contents_in s)))

-- one sequence of the object identifier and such a value
unfoldable pub is_signed : List ℕ → Bool
is_signed s = is_one 0x30 s && (begins identified (contents_in s) && holds_sequence (drop 11 (contents_in s)))
