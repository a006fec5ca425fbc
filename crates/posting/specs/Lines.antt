-- The lines of the posting program: words with one space between them, and a line end.
use Rattle.std.specs.Prelude.{ℕ, cond, List, [], ◌∷◌, ◌++◌, eqb, get_or}
use Rattle.laws.specs.Tabulate.{tabulate}
use Rattle.numbers.specs.Numbers.{letter_of}
use Rattle.answers.specs.declared.told.Answer.{Answer}
use Rattle.tables.specs.declared.makers.Maker.{Maker}
use Rattle.tables.specs.declared.makers.Maker.TheVariants as makers
use Rattle.outcomes.specs.declared.cases.Outcome.{Outcome}
use Rattle.outcomes.specs.declared.cases.Outcome.TheVariants.{None, Whole, Part, Refused}
use Rattle.outcomes.specs.declared.sums.Sums.{Sums}
use Rattle.outcomes.specs.Outcomes.{maker_in, numbers_of}
use Rattle.posting.specs.Decimal.{decimal}

-- a number and what follows it: a space or a line end
unfoldable pub number_then : ℕ → ℕ → List ℕ
number_then n end = decimal n ++ (end ∷ [])

-- a code's four letters and what follows it; a blank code is ----
unfoldable pub code_then : ℕ → ℕ → List ℕ
code_then code end = cond (eqb code 0x20202020) (tabulate (letter_of 0x2D2D2D2D) 4) (tabulate (letter_of code) 4) ++ (end ∷ [])

-- "accepted ", "refused ", "whole ", "part "
unfoldable pub accepted_word : List ℕ
accepted_word = 0x61 ∷ 0x63 ∷ 0x63 ∷ 0x65 ∷ 0x70 ∷ 0x74 ∷ 0x65 ∷ 0x64 ∷ 0x20 ∷ []

unfoldable pub refused_word : List ℕ
refused_word = 0x72 ∷ 0x65 ∷ 0x66 ∷ 0x75 ∷ 0x73 ∷ 0x65 ∷ 0x64 ∷ 0x20 ∷ []

unfoldable pub whole_word : List ℕ
whole_word = 0x77 ∷ 0x68 ∷ 0x6F ∷ 0x6C ∷ 0x65 ∷ 0x20 ∷ []

unfoldable pub part_word : List ℕ
part_word = 0x70 ∷ 0x61 ∷ 0x72 ∷ 0x74 ∷ 0x20 ∷ []

-- the word of an outcome; no request has none
abbrev pub word_for : Outcome → List ℕ
word_for None = []
word_for (Whole taken) = whole_word
word_for (Part taken notTaken code maker) = part_word
word_for (Refused notTaken code maker) = refused_word

-- "bank", "centre", or "----" for none, and a line end
unfoldable pub bank_end : List ℕ
bank_end = 0x62 ∷ 0x61 ∷ 0x6E ∷ 0x6B ∷ 0x0A ∷ []

unfoldable pub centre_end : List ℕ
centre_end = 0x63 ∷ 0x65 ∷ 0x6E ∷ 0x74 ∷ 0x72 ∷ 0x65 ∷ 0x0A ∷ []

unfoldable pub none_end : List ℕ
none_end = 0x2D ∷ 0x2D ∷ 0x2D ∷ 0x2D ∷ 0x0A ∷ []

-- the last word of a request's line
abbrev pub maker_end : Maker → List ℕ
maker_end makers.None = none_end
maker_end makers.Bank = bank_end
maker_end makers.Centre = centre_end

-- refused SIDE NUMBER RECORD ITEM CODE
unfoldable pub refusal_line : Answer → List ℕ
refusal_line a =
    refused_word ++ (number_then a.side 0x20 ++ (number_then a.number 0x20 ++ (number_then a.rec 0x20 ++
    (number_then a.item 0x20 ++ code_then a.code 0x0A))))

-- accepted REQUESTS ASKED TAKEN NOT-TAKEN
unfoldable pub accepted_line : ℕ → Sums → List ℕ
accepted_line n s =
    accepted_word ++ (number_then n 0x20 ++ (number_then s.asked 0x20 ++ (number_then s.taken 0x20 ++ number_then s.not_taken 0x0A)))

-- NUMBER OUTCOME TAKEN NOT-TAKEN CODE MAKER
unfoldable pub request_line : ℕ → Outcome → List ℕ
request_line number o =
    number_then number 0x20 ++ (word_for o ++ (number_then (get_or (numbers_of o) 1 0) 0x20 ++
    (number_then (get_or (numbers_of o) 2 0) 0x20 ++ (code_then (get_or (numbers_of o) 3 0) 0x20 ++ maker_end (maker_in o)))))

-- no request's line is longer
abbrev pub line_most : ℕ
line_most = 84
