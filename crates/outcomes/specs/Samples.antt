-- Sample debit files of one data record, built item by item.
use Rattle.std.specs.Prelude.{ℕ, cond, List, [], ◌∷◌, ◌++◌, eqb}
use Rattle.laws.specs.Joined.{all}
use Rattle.numbers.specs.Numbers.{digits_of}
use Rattle.kinds.specs.Kinds.{EB21, EB22}
use Rattle.reader.specs.Samples.{blanks, code, header_for, trailer_for}

-- an account and a payer
unfoldable pub account : List ℕ
account = digits_of 10 1234567890 ++ blanks 6

unfoldable pub payer : List ℕ
payer = digits_of 6 100200 ++ blanks 14

-- what the passbook shows: "00" and fourteen characters, "DUES" in front
unfoldable pub passbook : List ℕ
passbook = all (digits_of 2 0 ∷ (0x44 ∷ 0x55 ∷ 0x45 ∷ 0x53 ∷ []) ∷ blanks 10 ∷ [])

-- data record 1, items 1 to 15, with the account, the amount, the result and the digit of the type
unfoldable pub record_for : List ℕ → ℕ → List ℕ → ℕ → List ℕ
record_for account amount result type =
    all (
    (0x52 ∷ []) ∷ digits_of 8 1 ∷ code ∷ digits_of 7 40000 ∷ account ∷ digits_of 13 amount ∷ blanks 13 ∷ result ∷
    passbook ∷ blanks 2 ∷ payer ∷ blanks 5 ∷ digits_of 1 type ∷ blanks 12 ∷ blanks 21 ∷ [])

-- items 5 to 11 of the trailer of a request file of one record
unfoldable pub request_totals : ℕ → List ℕ
request_totals amount = all (digits_of 8 1 ∷ digits_of 8 1 ∷ digits_of 13 amount ∷ digits_of 21 0 ∷ blanks 63 ∷ blanks 10 ∷ [])

unfoldable pub request_file : List ℕ → ℕ → ℕ → List ℕ
request_file account amount type =
    all (header_for EB21 24 229 ∷ record_for account amount (blanks 5) type ∷ trailer_for EB21 229 (request_totals amount) ∷ [])

-- the mark and code 0021, which a bank sets
unfoldable pub result_of : ℕ → List ℕ
result_of mark = mark ∷ digits_of 4 21

-- n for a record with the mark b, else 0
unfoldable pub marked : ℕ → ℕ → ℕ → ℕ
marked b mark n = cond (eqb mark b) n 0

-- items 5 to 15 of the trailer of a result file of one record; the centre refused none
unfoldable pub result_totals : ℕ → ℕ → List ℕ
result_totals mark amount =
    all (
    digits_of 8 1 ∷ digits_of 8 (marked 0x4E mark 1) ∷ digits_of 13 (marked 0x4E mark amount) ∷
    digits_of 8 (marked 0x50 mark 1) ∷ digits_of 13 (marked 0x50 mark amount) ∷
    digits_of 8 0 ∷ digits_of 4 0 ∷ digits_of 11 0 ∷ digits_of 11 0 ∷ blanks 29 ∷ blanks 10 ∷ [])

unfoldable pub result_file : ℕ → ℕ → ℕ → List ℕ
result_file mark amount type =
    all (header_for EB22 24 229 ∷ record_for account amount (result_of mark) type ∷ trailer_for EB22 229 (result_totals mark amount) ∷ [])
