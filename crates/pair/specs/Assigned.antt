-- What it is that results answer requests, with nothing said of how a request is found.
use Rattle.std.specs.Prelude.{ℕ, ◌<◌, List, ◌≡◌}
use Rattle.records.specs.Records.{data_of, key_at}
use Rattle.layout.specs.Items.{amount_of}
use Rattle.kinds.specs.declared.of_pairs.PairKind.{PairKind}
use Rattle.kinds.specs.declared.of_pairs.Family.{Family}
use Rattle.kinds.specs.declared.of_pairs.Family.TheVariants.{Enrolment, Debit}
use Rattle.kinds.specs.Pairs.{request_kind, result_kind}
use Rattle.agreement.specs.Same.{request_at, result_at, Agree}
use Rattle.agreement.specs.Possible.{Possible}

-- result j + 1 has the key of request i + 1
pub record Matches (p : PairKind) (q r : List ℕ) (i j : ℕ) : Type 0 where
  pub request : i < data_of (request_kind p) q
  pub result : j < data_of (result_kind p) r
  pub key : key_at (request_kind p) q i ≡ key_at (result_kind p) r j

-- result j + 1 can answer request i + 1
pub record Met (p : PairKind) (q r : List ℕ) (i j : ℕ) : Type 0 where
  pub inside : i < data_of (request_kind p) q
  pub agree : Agree p (request_at p q i) (result_at p r j)
  pub possible : Possible p (request_at p q i) (result_at p r j)

-- an assignment of the results to distinct requests: result j + 1 answers request to j + 1
pub record Assignment (p : PairKind) (q r : List ℕ) : Type 0 where
  pub to : ℕ → ℕ
  pub distinct : (j l : ℕ) → j < data_of (result_kind p) r → l < data_of (result_kind p) r → to j ≡ to l → j ≡ l
  pub met : (j : ℕ) → j < data_of (result_kind p) r → Met p q r (to j) j

-- what a result record says was not taken: 1, or its amount
abbrev pub said_in : Family → List ℕ → ℕ
said_in Enrolment result = 1
said_in Debit result = amount_of result

abbrev pub said_not_taken : PairKind → List ℕ → ℕ
said_not_taken p result = said_in p.family result
