-- What the two lent lists hold after an accepted pair.
use Rattle.std.specs.Prelude.{ℕ, ◌+◌, ◌≤◌, ◌<◌, List, ◌≡◌, length, get_or}
use Rattle.laws.specs.Sum.{sum}
use Rattle.records.specs.Records.{data_of}
use Rattle.kinds.specs.declared.of_pairs.PairKind.{PairKind}
use Rattle.kinds.specs.Pairs.{request_kind}
use Rattle.matching.specs.Amounts.{asked_at}
use Rattle.pair.specs.Trailers.{asked_in_all, failed_in_all}

-- the number at a place of a list
abbrev pub at : List ℕ → ℕ → ℕ
at l i = get_or l i 0

-- a list from place n on is as it was, and as long
pub record Past (n : ℕ) (before after : List ℕ) : Type 0 where
  pub long : length after ≡ length before
  pub kept : (i : ℕ) → n ≤ i → at after i ≡ at before i

-- the lists of what was taken and what was not, at entry and at exit
pub record ListsSay (p : PairKind) (q r taken notTaken takenNow notTakenNow : List ℕ) : Type 0 where
  -- each request: both make up what it asked
  pub each : (i : ℕ) → i < data_of (request_kind p) q → at takenNow i + at notTakenNow i ≡ asked_at p q i
  -- what was not taken, over all requests, is the result trailer's total
  pub failed : sum (at notTakenNow) (data_of (request_kind p) q) ≡ failed_in_all p r
  -- both together are the request trailer's
  pub asked : sum (at takenNow) (data_of (request_kind p) q) + sum (at notTakenNow) (data_of (request_kind p) q) ≡ asked_in_all p q
  -- places past the requests are as they were
  pub taken-past : Past (data_of (request_kind p) q) taken takenNow
  pub failed-past : Past (data_of (request_kind p) q) notTaken notTakenNow
