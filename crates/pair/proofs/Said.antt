-- What is told of one result record, whatever is told of others.
-- Assumes nothing.
use Prim.Native.Nat.{ℕ, ◌+◌, ◌<◌}
use mathlib.Core.Bool.{true, false}
use mathlib.Core.List.{List}
use mathlib.Core.Path.{◌≡◌, refl, sym, ◌∙◌}
use mathlib.Core.Logic.{⊎_elim}
use native.Mathlib.Omega.{arith}
use borrow.Author.Tests.{ltb-true, ltb-false, lt-ltb}
use lib.Dec.{ltb}
use Rattle.laws.proofs.Bools.{either}
use Rattle.answers.specs.declared.told.Answer.{Answer}
use Rattle.answers.specs.Answers.{accepted, ◌then◌}
use Rattle.answers.proofs.Refusals.{then-first, then-second, number_of}
use Rattle.records.specs.Records.{data_of}
use Rattle.reader.specs.Meets.{Meets}
use Rattle.kinds.specs.declared.of_pairs.PairKind.{PairKind}
use Rattle.kinds.specs.Pairs.{request_kind, result_kind}
use Rattle.agreement.specs.Items.{Records, compared_of, items_tell}
use Rattle.agreement.specs.Amounts.{amounts_tell}
use Rattle.agreement.specs.Meeting.{meets_tell}
use Rattle.agreement.specs.Same.{request_at, result_at, Agree}
use Rattle.agreement.specs.Possible.{AmountsRefused}
use Rattle.agreement.proofs.Compared.{Differs, items-told, same-told}
use Rattle.pair.proofs.Possible.{AmountsTold, amounts-told, possible-told}
use Rattle.matching.specs.Matching.{request_for}
use Rattle.pair.specs.Results.{result_tells}
use Rattle.pair.specs.Assigned.{Matches, Met}
use Rattle.pair.specs.First.{ResultRefused, Stands}
use Rattle.pair.proofs.Keys.{request-found, request-none}

pub data ResultSays (p : PairKind) (q r : List ℕ) (j : ℕ) : Answer → Type 0 where
  stands : Stands p q r j → ResultSays p q r j accepted
  refused : {a : Answer} → ResultRefused p q r j a → ResultSays p q r j a

module _ (p : PairKind) (q r : List ℕ) (j : ℕ) where
  amounts-after :
      (i : ℕ) → Matches p q r i j → Agree p (request_at p q i) (result_at p r j) →
      (a : Answer) → AmountsTold p (j + 1) (request_at p q i) (result_at p r j) a → ResultSays p q r j a
  amounts-after i x s a (AmountsTold.good g) =
      ResultSays.stands (record { request = i; met = record { inside = x.request; agree = s; possible = g } })
  amounts-after i x s a (AmountsTold.bad b) = ResultSays.refused (ResultRefused.amounts i x s b)

  module _ (m : Meets (result_kind p) r) (h : j < data_of (result_kind p) r) where
    meets-says : (i : ℕ) → Matches p q r i j → ResultSays p q r j (meets_tell p (j + 1) (request_at p q i) (result_at p r j))
    unfolding meets_tell
    meets-says i x = ⊎_elim same differ (items-told 13 (j + 1) (compared_of p Records) (request_at p q i) (result_at p r j) (λ e. omega arith))
      where
        items : Answer
        items = items_tell 13 (j + 1) (compared_of p Records) (request_at p q i) (result_at p r j)

        amounts : Answer
        amounts = amounts_tell p (j + 1) (request_at p q i) (result_at p r j)

        same : Agree p (request_at p q i) (result_at p r j) → ResultSays p q r j (items then amounts)
        same g =
            rw (then-second items amounts (number_of (same-told 13 (j + 1) (compared_of p Records) (request_at p q i) (result_at p r j) g)))
            (amounts-after i x g amounts (amounts-told p (j + 1) (request_at p q i) r m j h))

        differ : ((c : ℕ) × Differs 13 (j + 1) (compared_of p Records) (request_at p q i) (result_at p r j) c) → ResultSays p q r j (items then amounts)
        differ y =
            let d = y.1 in
            rw (then-first items amounts (λ z. absurd (omega (arith, number_of (sym d.told) ∙ z))), d.told)
            (ResultSays.refused (ResultRefused.copied i y.0 x d.below d.differs d.before))

    pub result_says : ResultSays p q r j (result_tells p q r j)
    unfolding result_tells
    result_says = ⊎_elim found none (either (ltb (request_for p q r j) (data_of (request_kind p) q)))
      where
        found : ltb (request_for p q r j) (data_of (request_kind p) q) ≡ true → ResultSays p q r j (result_tells p q r j)
        found t = rw t (meets-says (request_for p q r j) (request-found p q r j h (ltb-true _ _ t)))

        none : ltb (request_for p q r j) (data_of (request_kind p) q) ≡ false → ResultSays p q r j (result_tells p q r j)
        none f = rw f (ResultSays.refused (ResultRefused.unknown (request-none p q r j (ltb-false _ _ f))))

  -- a result that can answer the request found for it is accepted
  pub met-told : Met p q r (request_for p q r j) j → result_tells p q r j ≡ accepted
  unfolding result_tells meets_tell
  met-told m =
      rw (
        lt-ltb (request_for p q r j) (data_of (request_kind p) q) m.inside,
        same-told 13 (j + 1) (compared_of p Records) (request_at p q (request_for p q r j)) (result_at p r j) m.agree,
      ) (then-second accepted (amounts_tell p (j + 1) (request_at p q (request_for p q r j)) (result_at p r j)) refl ∙ possible-told p (j + 1) m.possible)

-- a refusal is no 0
amounts-number : {p : PairKind} {rec : ℕ} {request result : List ℕ} {a : Answer} → AmountsRefused p rec request result a → a.number ≡ 0 → ⊥
amounts-number (AmountsRefused.type_one o) e = omega arith
amounts-number (AmountsRefused.amount n w) e = omega arith

pub refused-number : {p : PairKind} {q r : List ℕ} {j : ℕ} {a : Answer} → ResultRefused p q r j a → a.number ≡ 0 → ⊥
refused-number (ResultRefused.unknown n) e = omega arith
refused-number (ResultRefused.copied i c x l d f) e = omega arith
refused-number (ResultRefused.amounts i x s b) e = amounts-number b e
