-- A pair is accepted exactly when its results can be assigned to distinct requests, and that in one way only.
-- Assumes nothing.
use Prim.Native.Nat.{ℕ, ◌≤◌, ◌<◌}
use mathlib.Core.Bool.{Bool, true}
use mathlib.Core.List.{List}
use mathlib.Core.Path.{◌≡◌, sym, ◌∙◌, ap}
use mathlib.Core.Logic.{◌↔◌}
use borrow.Author.Tests.{le-leb}
use Rattle.answers.specs.Answers.{accepted}
use Rattle.records.specs.Records.{data_of}
use Rattle.reader.specs.Reading.{read_as}
use Rattle.reader.specs.Meets.{Meets}
use Rattle.reader.proofs.Exact.{read-exact}
use Rattle.kinds.specs.declared.of_pairs.PairKind.{PairKind}
use Rattle.kinds.specs.Pairs.{request_kind, result_kind}
use Rattle.agreement.specs.Same.{HeadersAgree}
use Rattle.answers.proofs.Refusals.{number_of}
use Rattle.matching.specs.Matching.{request_for, result_for}
use Rattle.pair.specs.Pairing.{lists_fit, pair_as}
use Rattle.pair.specs.Assigned.{Assignment}
use Rattle.pair.proofs.Keys.{result-back}
use Rattle.pair.proofs.Matched.{Paired, met-is, met-found, pair-known, known-pair}

module _ (p : PairKind) (q r : List ℕ) where
  -- the requests that are found are an assignment
  pub paired-assigned : Paired p q r → Assignment p q r
  paired-assigned h = record {
    to = request_for p q r;
    distinct = λ j l b c e.
        sym (result-back p q r h.result.keys j b (h.each j b).inside) ∙
        (ap (result_for p q r) e ∙ result-back p q r h.result.keys l c (h.each l c).inside);
    met = h.each;
  }

  -- *Exact pairing*: of accepted files whose headers agree, with room, a pair is accepted exactly when there is an assignment
  pub pair-exact :
      read_as (request_kind p) q ≡ accepted → read_as (result_kind p) r ≡ accepted → HeadersAgree p q r →
      (taken notTaken : ℕ) → data_of (request_kind p) q ≤ taken → data_of (request_kind p) q ≤ notTaken →
      (pair_as p q r taken notTaken ≡ accepted) ↔ Assignment p q r
  unfolding pair_as lists_fit
  pair-exact eq er headers taken notTaken a b = (
    λ e. paired-assigned (pair-known p q r fits (number_of e)),
    λ s. known-pair p q r fits roomy (record { request = mq; result = (read-exact (result_kind p) r).0 er; headers = headers; each = λ j h. met-found p q r mq (s.to j) j h (s.met j h) }),
  )
    where
      fits : Bool
      fits = lists_fit (data_of (request_kind p) q) taken notTaken

      roomy : fits ≡ true
      roomy = rw (le-leb (data_of (request_kind p) q) taken a, le-leb (data_of (request_kind p) q) notTaken b)

      mq : Meets (request_kind p) q
      mq = (read-exact (request_kind p) q).0 eq

  -- *Only one*: two assignments of the results of an accepted file to the requests of another are the same
  pub only_one : read_as (request_kind p) q ≡ accepted → (a b : Assignment p q r) (j : ℕ) → j < data_of (result_kind p) r → a.to j ≡ b.to j
  only_one eq a b j h =
      let m = (read-exact (request_kind p) q).0 eq in
      sym (met-is p q r m (a.to j) j h (a.met j h)) ∙ met-is p q r m (b.to j) j h (b.met j h)
