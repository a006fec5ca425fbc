-- What an accepted pair is, and that it is accepted.
-- Assumes nothing.
use Prim.Native.Nat.{ℕ, ◌<◌}
use mathlib.Core.Bool.{Bool, true}
use mathlib.Core.List.{List}
use mathlib.Core.Path.{◌≡◌, ◌∙◌}
use native.Mathlib.Omega.{arith}
use Rattle.answers.specs.declared.told.Answer.{Answer}
use Rattle.answers.specs.Answers.{accepted}
use Rattle.answers.proofs.Refusals.{told-all, number_of}
use Rattle.records.specs.Records.{data_of}
use Rattle.reader.specs.Meets.{Meets}
use Rattle.reader.proofs.Exact.{read-exact}
use Rattle.kinds.specs.declared.of_pairs.PairKind.{PairKind}
use Rattle.kinds.specs.Pairs.{request_kind, result_kind}
use Rattle.agreement.specs.Same.{HeadersAgree}
use Rattle.reader.proofs.Accepted.{meets-zero}
use Rattle.agreement.proofs.Compared.{headers-told}
use Rattle.matching.specs.Matching.{request_for, result_for}
use Rattle.pair.specs.Results.{result_tells, results_tell}
use Rattle.pair.specs.Pairing.{pair_by, lists_fit, pair_as}
use Rattle.pair.specs.Assigned.{Met}
use Rattle.pair.specs.First.{PairSays}
use Rattle.pair.proofs.Stages.{by-results, pair_fits}
use Rattle.pair.proofs.Keys.{request-is, request-back, met-matches}
use Rattle.pair.proofs.Said.{met-told, refused-number}
use Rattle.pair.proofs.First.{pair-says}

-- both files are accepted, the headers agree, and each result can answer the request that is found for it
pub record Paired (p : PairKind) (q r : List ℕ) : Type 0 where
  pub request : Meets (request_kind p) q
  pub result : Meets (result_kind p) r
  pub headers : HeadersAgree p q r
  pub each : (j : ℕ) → j < data_of (result_kind p) r → Met p q r (request_for p q r j) j

module _ (p : PairKind) (q r : List ℕ) where
  -- a result can answer no request but the one found for it
  pub met-is : Meets (request_kind p) q → (i j : ℕ) → j < data_of (result_kind p) r → Met p q r i j → request_for p q r j ≡ i
  met-is m i j h x = request-is p q r m.keys i j (met-matches p q r i j h x)

  pub met-found : Meets (request_kind p) q → (i j : ℕ) → j < data_of (result_kind p) r → Met p q r i j → Met p q r (request_for p q r j) j
  met-found m i j h x = rw (met-is m i j h x) x

  -- the result found for a request can answer it
  pub result-met : Paired p q r → (i : ℕ) → i < data_of (request_kind p) q → result_for p q r i < data_of (result_kind p) r → Met p q r i (result_for p q r i)
  result-met x i l h = rw (request-back p q r x.request.keys i l h) at (x.each (result_for p q r i) h)

  module _ (fits : Bool) where
    said-paired : (a : Answer) → PairSays p q r fits a → a.number ≡ 0 → Paired p q r
    said-paired a (PairSays.good x s) e =
        let m = (read-exact (request_kind p) q).0 x.read.request in
        record {
          request = m;
          result = (read-exact (result_kind p) r).0 x.read.result;
          headers = x.headers;
          each = λ j h. met-found m (s j h).request j h (s j h).met;
        }
    said-paired a (PairSays.request ne) e = absurd (ne e)
    said-paired a (PairSays.result g ne) e = absurd (ne e)
    said-paired a (PairSays.header c b l d f) e = absurd (omega arith)
    said-paired a (PairSays.room b h f) e = absurd (omega arith)
    said-paired a (PairSays.first j x b) e = absurd (refused-number b e)

    -- an accepted pair is such, whether or not lists are lent
    pub pair-known : (pair_by p q r fits).number ≡ 0 → Paired p q r
    pair-known = said-paired (pair_by p q r fits) (pair-says p q r fits)

    -- such a pair is accepted where the lists fit
    pub known-pair : fits ≡ true → Paired p q r → pair_by p q r fits ≡ accepted
    unfolding results_tell
    known-pair t x =
        by-results p q r fits (meets-zero (request_kind p) q x.request) (meets-zero (result_kind p) r x.result)
        (number_of (headers-told p q r x.headers)) t ∙
        told-all (result_tells p q r) (data_of (result_kind p) r) (λ j h. number_of (met-told p q r j (x.each j h)))

  -- with two lists lent it is the same pair
  pub lent-pair : (taken notTaken : ℕ) → (pair_as p q r taken notTaken).number ≡ 0 → (pair_by p q r true).number ≡ 0
  unfolding pair_as
  lent-pair taken notTaken e = rw (pair_fits p q r (lists_fit (data_of (request_kind p) q) taken notTaken) e) at e
