-- What is told of the two headers, and of a result record against its request.
use Rattle.std.specs.Prelude.{ℕ, List}
use Rattle.answers.specs.declared.told.Answer.{Answer}
use Rattle.answers.specs.Answers.{◌then◌}
use Rattle.records.specs.Records.{record_of}
use Rattle.kinds.specs.declared.of_pairs.PairKind.{PairKind}
use Rattle.kinds.specs.Pairs.{request_kind, result_kind}
use Rattle.agreement.specs.Items.{Headers, Records, compared_of, items_tell}
use Rattle.agreement.specs.Amounts.{amounts_tell}

-- 12: the headers differ
unfoldable pub headers_tell : PairKind → List ℕ → List ℕ → Answer
headers_tell p q r = items_tell 12 0 (compared_of p Headers) (record_of (request_kind p) q 0) (record_of (result_kind p) r 0)

-- result record `rec` against its request: 13 at the first copied item that differs, before 14
unfoldable pub meets_tell : PairKind → ℕ → List ℕ → List ℕ → Answer
meets_tell p rec request result = items_tell 13 rec (compared_of p Records) request result then amounts_tell p rec request result
