-- The marked edge cases: for each, what the definitions say and what the paper says.
use Rattle.std.specs.Prelude.{ℕ, List, [], ◌∷◌, ◌++◌, length, take}
use Rattle.laws.specs.Joined.{all}
use Rattle.numbers.specs.Numbers.{digits_of}
use Rattle.kinds.specs.Kinds.{EB21}
use Rattle.answers.specs.declared.told.Answer.{Answer}
use Rattle.records.specs.Records.{data_of}
use Rattle.reader.specs.Reading.{read_of}
use Rattle.reader.specs.Samples.{blanks, empty_on}
use Rattle.pair.specs.Pairing.{pair_told}
use Rattle.outcomes.specs.declared.cases.Told.{Told}
use Rattle.outcomes.specs.Outcomes.{numbers_of, outcome_told}
use Rattle.outcomes.specs.Samples.{account, request_file, result_file}

pub record Case : Type 0 where
  pub said : List ℕ
  pub paper : List ℕ

-- an answer's five numbers: side, number, record, item, code; an outcome has five more
abbrev pub five_of : Answer → List ℕ
five_of a = a.side ∷ a.number ∷ a.rec ∷ a.item ∷ a.code ∷ []

abbrev pub ten_of : Told → List ℕ
ten_of t = five_of t.answer ++ numbers_of t.outcome

-- EB21 files are read: one record with the account, the amount and the type; no record, for a day; any bytes
unfoldable pub of_file : List ℕ → List ℕ
of_file s = five_of (read_of 0x45423231 s)

-- the same with its length and n before it
unfoldable pub of_sized : List ℕ → List ℕ
of_sized s = length s ∷ data_of EB21 s ∷ of_file s

unfoldable pub of_record : List ℕ → ℕ → ℕ → List ℕ
of_record account amount type = of_file (request_file account amount type)

unfoldable pub of_day : ℕ → ℕ → List ℕ
of_day year day = of_file (empty_on EB21 year day)

-- a request of 20,000 won of type 2 meets a result with the mark and the amount: the pair, and the request's outcome
unfoldable pub request : List ℕ
request = request_file account 20000 2

unfoldable pub of_pair : ℕ → ℕ → List ℕ
of_pair mark amount = five_of (pair_told 0x45423231 request (result_file mark amount 2) 1 1)

unfoldable pub of_request : ℕ → ℕ → List ℕ
of_request mark amount = ten_of (outcome_told 0x45423231 request (result_file mark amount 2) 1)

-- 1234567890, a space and 12345
unfoldable pub broken_account : List ℕ
broken_account = all (digits_of 10 1234567890 ∷ blanks 1 ∷ digits_of 5 12345 ∷ [])

abbrev pub good : List ℕ
good = 0 ∷ 0 ∷ 0 ∷ 0 ∷ 0x30303030 ∷ []

-- cases 1 to 12; 9 is "P", then taken 1,000 and not taken 19,000 with the code, a bank's; 12 is two: 300 bytes and n = 0, and the
-- first 150 of them
unfoldable pub cases : List Case
cases =
    record { said = of_record account 140 0; paper = good } ∷
    record { said = of_record account 139 0; paper = 0 ∷ 4 ∷ 1 ∷ 13 ∷ 0x30303735 ∷ [] } ∷
    record { said = of_record account 139 1; paper = good } ∷
    record { said = of_record account 0 1; paper = 0 ∷ 4 ∷ 1 ∷ 6 ∷ 0x30303631 ∷ [] } ∷
    record { said = of_record account 10000 0; paper = good } ∷
    record { said = of_record broken_account 10000 0; paper = 0 ∷ 4 ∷ 1 ∷ 5 ∷ 0x30303938 ∷ [] } ∷
    record { said = of_day 24 229; paper = good } ∷
    record { said = of_day 23 229; paper = 0 ∷ 4 ∷ 0 ∷ 5 ∷ 0x39393938 ∷ [] } ∷
    record { said = of_request 0x50 19000; paper = good ++ (2 ∷ 1000 ∷ 19000 ∷ 0x30303231 ∷ 1 ∷ []) } ∷
    record { said = of_pair 0x50 19001; paper = 0 ∷ 14 ∷ 1 ∷ 6 ∷ 0x30303030 ∷ [] } ∷
    record { said = of_pair 0x4E 19999; paper = 0 ∷ 14 ∷ 1 ∷ 6 ∷ 0x30303030 ∷ [] } ∷
    record { said = of_sized (empty_on EB21 24 229); paper = 300 ∷ 0 ∷ good } ∷
    record { said = of_file (take 150 (empty_on EB21 24 229)); paper = 0 ∷ 2 ∷ 0 ∷ 0 ∷ 0x30303030 ∷ [] } ∷
    []
