-- What a request asks, what its result says was not taken, and what was taken.
use Rattle.std.specs.Prelude.{ℕ, ◌-◌, cond, List, ltb}
use Rattle.records.specs.Records.{data_of}
use Rattle.records.specs.Quantities.{worth_at}
use Rattle.kinds.specs.declared.of_pairs.PairKind.{PairKind}
use Rattle.kinds.specs.Pairs.{request_kind, result_kind}
use Rattle.agreement.specs.Amounts.{asks}
use Rattle.matching.specs.Matching.{result_for}

-- what request i + 1 asks
unfoldable pub asked_at : PairKind → List ℕ → ℕ → ℕ
asked_at p q i = worth_at (request_kind p) q (asks p) i

-- what result j + 1 says was not taken, and nothing where there is no such result
unfoldable pub not_taken_by : PairKind → List ℕ → ℕ → ℕ
not_taken_by p r j = cond (ltb j (data_of (result_kind p) r)) (worth_at (result_kind p) r (asks p) j) 0

-- what was not taken of request i + 1: what its result says
unfoldable pub not_taken_at : PairKind → List ℕ → List ℕ → ℕ → ℕ
not_taken_at p q r i = not_taken_by p r (result_for p q r i)

-- what was taken of it: the rest
unfoldable pub taken_at : PairKind → List ℕ → List ℕ → ℕ → ℕ
taken_at p q r i = asked_at p q i - not_taken_at p q r i
