-- What all requests asked, what was taken and what was not.
use Rattle.std.specs.Prelude.{ℕ, List}
use Rattle.laws.specs.Sum.{sum}
use Rattle.records.specs.Records.{data_of}
use Rattle.kinds.specs.declared.of_pairs.PairKind.{PairKind}
use Rattle.kinds.specs.Pairs.{request_kind}
use Rattle.matching.specs.Amounts.{asked_at, taken_at, not_taken_at}
use Rattle.outcomes.specs.declared.sums.Sums.{Sums}

-- each sum is over all requests
unfoldable pub sums_of : PairKind → List ℕ → List ℕ → Sums
sums_of p q r = record {
  asked = sum (asked_at p q) (data_of (request_kind p) q);
  taken = sum (taken_at p q r) (data_of (request_kind p) q);
  not_taken = sum (not_taken_at p q r) (data_of (request_kind p) q);
}
