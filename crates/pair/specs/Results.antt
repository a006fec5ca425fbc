-- What is told of each result record.
use Rattle.std.specs.Prelude.{ℕ, ◌+◌, cond, List, ltb}
use Rattle.kinds.specs.Kinds.{fixed_of}
use Rattle.answers.specs.declared.told.Answer.{Answer}
use Rattle.answers.specs.Answers.{refused_at, first_told}
use Rattle.records.specs.Records.{record_of, data_of}
use Rattle.kinds.specs.declared.of_pairs.PairKind.{PairKind}
use Rattle.kinds.specs.Pairs.{request_kind, result_kind}
use Rattle.agreement.specs.Meeting.{meets_tell}
use Rattle.matching.specs.Matching.{request_for}

-- result j + 1: 13 at the key item where it has no request
unfoldable pub result_tells : PairKind → List ℕ → List ℕ → ℕ → Answer
result_tells p q r j =
    cond (ltb (request_for p q r j) (data_of (request_kind p) q))
    (meets_tell p (j + 1) (record_of (request_kind p) q (request_for p q r j + 1)) (record_of (result_kind p) r (j + 1)))
    (refused_at 13 (j + 1) (fixed_of (result_kind p)).key.item 0x30303030)

-- the result records in order
unfoldable pub results_tell : PairKind → List ℕ → List ℕ → Answer
results_tell p q r = first_told (result_tells p q r) (data_of (result_kind p) r)
