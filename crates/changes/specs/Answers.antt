-- The answers to the records of an EB11, one for each: 0 is yes, all else a code's four bytes as one number.
use Rattle.std.specs.Prelude.{ℕ, Bool, cond, not, ◌||◌, List, [], ◌∷◌, eqb, length, get_or}
use Rattle.answers.specs.declared.told.Answer.{Answer}
use Rattle.answers.specs.Answers.{accepted, refused, first_told}
use Rattle.tables.specs.Among.{is_among}

-- the institution's own codes: A013 payer unknown, A016 applied twice, A017 other, A019 a debit is under way
unfoldable pub our_codes : List ℕ
our_codes = 0x41303133 ∷ 0x41303136 ∷ 0x41303137 ∷ 0x41303139 ∷ []

-- yes, or one of the codes
unfoldable pub is_answer : ℕ → Bool
is_answer a = eqb a 0 || is_among our_codes a

-- a no, and that record i + 1 is refused
unfoldable pub is_no : ℕ → Bool
is_no a = not (eqb a 0)

unfoldable pub says_no : List ℕ → ℕ → Bool
says_no answers i = is_no (get_or answers i 0)

-- one is a yes and the other a no
unfoldable pub apart : ℕ → ℕ → Bool
apart a b = cond (eqb a 0) (is_no b) (eqb b 0)

-- 51: not one answer for each of n records, or one that is no answer
unfoldable pub answer_told : List ℕ → ℕ → Answer
answer_told answers i = cond (is_answer (get_or answers i 0)) accepted (refused 51)

unfoldable pub answers_told : List ℕ → ℕ → Answer
answers_told answers n = cond (eqb (length answers) n) (first_told (answer_told answers) n) (refused 51)
