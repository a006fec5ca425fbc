-- The answer about a pair names the first thing wrong, in the order of the paper.
-- Assumes nothing.
use Prim.Native.Nat.{ℕ, ◌<◌}
use mathlib.Core.Bool.{Bool, true, false}
use mathlib.Core.List.{List}
use mathlib.Core.Path.{◌≡◌, refl, sym, ◌∙◌}
use mathlib.Core.Logic.{⊎_elim}
use native.Mathlib.Omega.{arith}
use Rattle.laws.proofs.Bools.{either}
use Rattle.answers.specs.declared.told.Answer.{Answer}
use Rattle.answers.specs.Answers.{refuses}
use Rattle.answers.proofs.Refusals.{refuses-zero, refuses-other, told, First, Good, number_of}
use Rattle.records.specs.Records.{record_of, data_of}
use Rattle.reader.specs.Reading.{read_as}
use Rattle.reader.proofs.Exact.{read-exact}
use Rattle.kinds.specs.declared.of_pairs.PairKind.{PairKind}
use Rattle.kinds.specs.Pairs.{request_kind, result_kind}
use Rattle.agreement.specs.Items.{Headers, compared_of}
use Rattle.agreement.specs.Meeting.{headers_tell}
use Rattle.agreement.specs.Same.{HeadersAgree}
use Rattle.reader.proofs.Accepted.{read-zero}
use Rattle.agreement.proofs.Compared.{Differs, items-told, headers-told}
use Rattle.pair.specs.Results.{result_tells, results_tell}
use Rattle.pair.specs.Pairing.{pair_by, lists_fit, pair_as}
use Rattle.pair.specs.First.{Stands, StandTo, BothRead, Ready, Reached, PairSays}
use Rattle.pair.proofs.Stages.{by-request, by_result, by-headers, by-room, by-results}
use Rattle.pair.proofs.Said.{ResultSays, result_says, refused-number}

module _ (p : PairKind) (q r : List ℕ) (fits : Bool) where
  -- what a result says, said of the pair
  said : (j : ℕ) → Reached p q r fits j → (a : Answer) → ResultSays p q r j a → (a.number ≡ 0 → ⊥) → PairSays p q r fits a
  said j x a (ResultSays.stands s) ne = absurd (ne refl)
  said j x a (ResultSays.refused b) ne = PairSays.first j x b

  said-stands : (j : ℕ) (a : Answer) → ResultSays p q r j a → a.number ≡ 0 → Stands p q r j
  said-stands j a (ResultSays.stands s) e = s
  said-stands j a (ResultSays.refused b) e = absurd (refused-number b e)

  says-results : Ready p q r fits → PairSays p q r fits (results_tell p q r)
  unfolding results_tell
  says-results x = ⊎_elim good bad (told (result_tells p q r) (data_of (result_kind p) r))
    where
      each : (j : ℕ) → j < data_of (result_kind p) r → ResultSays p q r j (result_tells p q r j)
      each j h = result_says p q r j ((read-exact (result_kind p) r).0 x.read.result) h

      good : Good (result_tells p q r) (data_of (result_kind p) r) → PairSays p q r fits (results_tell p q r)
      good g = rw g.told (PairSays.good x (λ j h. said-stands j (result_tells p q r j) (each j h) (g.all j h)))

      bad : ((j : ℕ) × First (result_tells p q r) (data_of (result_kind p) r) j) → PairSays p q r fits (results_tell p q r)
      bad y =
          let j = y.0 in
          let f = y.1 in
          let before : StandTo p q r j = λ m h. said-stands m (result_tells p q r m) (each m (omega (arith, f.below))) (f.before m h) in
          rw f.told
          (said j (record { ready = x; below = f.below; earlier = before }) (result_tells p q r j) (each j f.below) f.bad)

  module _ (b : BothRead p q r) where
    good-request : (read_as (request_kind p) q).number ≡ 0
    good-request = number_of b.request

    good-result : (read_as (result_kind p) r).number ≡ 0
    good-result = number_of b.result

    says-room : HeadersAgree p q r → PairSays p q r fits (pair_by p q r fits)
    says-room h =
        let agree = number_of (headers-told p q r h) in
        ⊎_elim
        (λ t. rw (by-results p q r fits good-request good-result agree t) (says-results (record { read = b; headers = h; room = t })))
        (λ f. rw (by-room p q r fits good-request good-result agree f) (PairSays.room b h f))
        (either fits)

    says-headers : PairSays p q r fits (pair_by p q r fits)
    unfolding headers_tell
    says-headers = ⊎_elim says-room differ (items-told 12 0 (compared_of p Headers) (record_of (request_kind p) q 0) (record_of (result_kind p) r 0) (λ e. omega arith))
      where
        differ : ((c : ℕ) × Differs 12 0 (compared_of p Headers) (record_of (request_kind p) q 0) (record_of (result_kind p) r 0) c) → PairSays p q r fits (pair_by p q r fits)
        differ y =
            let d = y.1 in
            rw (by-headers p q r fits good-request good-result (λ z. absurd (omega (arith, number_of (sym d.told) ∙ z))), d.told)
            (PairSays.header y.0 b d.below d.differs d.before)

  -- *First refusal* of a pair: the answer names the first thing wrong
  pub pair-says : PairSays p q r fits (pair_by p q r fits)
  pair-says = ⊎_elim request read (either (refuses (read_as (request_kind p) q)))
    where
      request : refuses (read_as (request_kind p) q) ≡ true → PairSays p q r fits (pair_by p q r fits)
      request t = let ne = refuses-other (read_as (request_kind p) q) t in rw (by-request p q r fits ne) (PairSays.request ne)

      result : (read_as (request_kind p) q).number ≡ 0 → refuses (read_as (result_kind p) r) ≡ true → PairSays p q r fits (pair_by p q r fits)
      result e t =
          let ne = refuses-other (read_as (result_kind p) r) t in
          rw (by_result p q r fits e ne) (PairSays.result (read-zero (request_kind p) q e) ne)

      read : refuses (read_as (request_kind p) q) ≡ false → PairSays p q r fits (pair_by p q r fits)
      read f =
          let e = refuses-zero (read_as (request_kind p) q) f in
          ⊎_elim (result e)
          (λ g. says-headers (record {
            request = read-zero (request_kind p) q e;
            result = read-zero (result_kind p) r (refuses-zero (read_as (result_kind p) r) g);
          }))
          (either (refuses (read_as (result_kind p) r)))

-- the same of the pair with its two lists lent
pub lent_says :
    (p : PairKind) (q r : List ℕ) (taken notTaken : ℕ) →
    PairSays p q r (lists_fit (data_of (request_kind p) q) taken notTaken) (pair_as p q r taken notTaken)
unfolding pair_as
lent_says p q r taken notTaken = pair-says p q r (lists_fit (data_of (request_kind p) q) taken notTaken)
