-- Sample headers, trailers and files, built item by item.
use Rattle.std.specs.Prelude.{ℕ, List, [], ◌∷◌, ◌++◌, replicate}
use Rattle.laws.specs.Joined.{all}
use Rattle.laws.specs.Tabulate.{tabulate}
use Rattle.numbers.specs.Numbers.{digits_of, letter_of}
use Rattle.kinds.specs.declared.of_files.Kind.{Kind}
use Rattle.kinds.specs.declared.of_files.Form.{Form}
use Rattle.kinds.specs.declared.of_files.Form.TheVariants.{EnrolmentRequest, EnrolmentResult, DebitRequest, DebitResult, BankEnrolment}

abbrev pub blanks : ℕ → List ℕ
blanks n = replicate n 0x20

-- the institution of the samples
unfoldable pub code : List ℕ
code = digits_of 10 9912345678

-- what follows item 5 of a header: spaces; in debit a branch and an account first
unfoldable pub header_rest : Form → List ℕ
header_rest EnrolmentRequest = blanks 87
header_rest EnrolmentResult = blanks 87
header_rest DebitRequest = all (digits_of 7 46554 ∷ digits_of 11 65501053333 ∷ blanks 5 ∷ blanks 94 ∷ [])
header_rest DebitResult = all (digits_of 7 46554 ∷ digits_of 11 65501053333 ∷ blanks 5 ∷ blanks 94 ∷ [])
header_rest BankEnrolment = blanks 87

-- a kind's four letters
unfoldable pub letters : Kind → List ℕ
letters k = tabulate (letter_of k.own.name) 4

-- a header for the year and the day MMDD
unfoldable pub header_for : Kind → ℕ → ℕ → List ℕ
header_for k year day =
    all ((0x48 ∷ []) ∷ digits_of 8 0 ∷ code ∷ letters k ∷ digits_of 4 day ∷ digits_of 2 year ∷ digits_of 4 day ∷ header_rest k.form ∷ [])

-- a trailer for the day, with what follows its item 4
unfoldable pub trailer_for : Kind → ℕ → List ℕ → List ℕ
trailer_for k day rest = all ((0x54 ∷ []) ∷ digits_of 8 99999999 ∷ code ∷ letters k ∷ digits_of 4 day ∷ rest ∷ [])

-- that of a file of no data records: zeros, then spaces
unfoldable pub no_totals : Form → List ℕ
no_totals EnrolmentRequest = digits_of 40 0 ++ blanks 53
no_totals EnrolmentResult = digits_of 40 0 ++ blanks 53
no_totals DebitRequest = digits_of 50 0 ++ blanks 73
no_totals DebitResult = digits_of 84 0 ++ blanks 39
no_totals BankEnrolment = digits_of 40 0 ++ blanks 53

-- a header and a trailer, no data records
unfoldable pub empty_on : Kind → ℕ → ℕ → List ℕ
empty_on k year day = header_for k year day ++ trailer_for k day (no_totals k.form)

unfoldable pub empty_file : Kind → List ℕ
empty_file k = empty_on k 24 229
