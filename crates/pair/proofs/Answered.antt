-- The money by any assignment of the results: what each result says was not taken of the request that it is assigned to.
-- Assumes nothing.
use Prim.Native.Nat.{ℕ, ◌+◌, ◌<◌}
use mathlib.Core.Bool.{Bool, true}
use mathlib.Core.List.{List}
use mathlib.Core.Path.{◌≡◌, refl, sym, ◌∙◌}
use mathlib.Core.Logic.{⊎_elim}
use native.Mathlib.Nat.{add-zero}
use borrow.Author.Tests.{lt-ltb, ltb-true}
use lib.Dec.{ltb}
use Rattle.laws.proofs.Bools.{either}
use Rattle.records.specs.Records.{data_of}
use Rattle.records.specs.Quantities.{worth, worth_at}
use Rattle.kinds.specs.declared.of_pairs.PairKind.{PairKind}
use Rattle.kinds.specs.declared.of_pairs.Family.{Family}
use Rattle.kinds.specs.declared.of_pairs.Family.TheVariants.{Enrolment, Debit}
use Rattle.kinds.specs.Pairs.{request_kind, result_kind}
use Rattle.agreement.specs.Amounts.{asks_in}
use Rattle.agreement.specs.Same.{result_at}
use Rattle.matching.specs.Matching.{result_for}
use Rattle.matching.specs.Amounts.{asked_at, taken_at, not_taken_by, not_taken_at}
use Rattle.pair.specs.Pairing.{pair_by}
use Rattle.pair.specs.Assigned.{Assignment, said_in, said_not_taken}
use Rattle.pair.proofs.Keys.{result-is, request-back, met-matches}
use Rattle.pair.proofs.Matched.{Paired, pair-known, met-is}
use Rattle.pair.proofs.Money.{each-request}

-- what a result that is there says was not taken
worth-in : (f : Family) (result : List ℕ) → worth (asks_in f) result ≡ said_in f result
unfolding worth
worth-in Enrolment result = refl
worth-in Debit result = refl

said-by : (p : PairKind) (r : List ℕ) (j : ℕ) → j < data_of (result_kind p) r → not_taken_by p r j ≡ said_not_taken p (result_at p r j)
unfolding not_taken_by worth_at
said-by p r j h = rw (lt-ltb j (data_of (result_kind p) r) h) (worth-in p.family (result_at p r j))

module _ (p : PairKind) (q r : List ℕ) (fits : Bool) (e : (pair_by p q r fits).number ≡ 0) (a : Assignment p q r) where
  known : Paired p q r
  known = pair-known p q r fits e

  -- the result of the request that result j + 1 is assigned to is that result
  result-assigned : (j : ℕ) → j < data_of (result_kind p) r → result_for p q r (a.to j) ≡ j
  result-assigned j h = result-is p q r known.result.keys (a.to j) j (met-matches p q r (a.to j) j h (a.met j h))

  -- *Assigned*: what was not taken of the request that result j + 1 is assigned to is what that result says
  pub assigned-not-taken : (j : ℕ) → j < data_of (result_kind p) r → not_taken_at p q r (a.to j) ≡ said_not_taken p (result_at p r j)
  unfolding not_taken_at
  assigned-not-taken j h = rw (result-assigned j h) (said-by p r j h)

  -- and what was taken of it is the rest
  pub assigned-taken :
      (j : ℕ) → j < data_of (result_kind p) r → taken_at p q r (a.to j) + said_not_taken p (result_at p r j) ≡ asked_at p q (a.to j)
  assigned-taken j h = rw (← assigned-not-taken j h) (each-request p q r fits e (a.to j) (a.met j h).inside)

  module _ (i : ℕ) (inside : i < data_of (request_kind p) q) (none : (j : ℕ) → j < data_of (result_kind p) r → a.to j ≡ i → ⊥) where
    -- *Not assigned*: of a request to which no result is assigned nothing was left
    pub unassigned-not-taken : not_taken_at p q r i ≡ 0
    unfolding not_taken_at not_taken_by
    unassigned-not-taken = ⊎_elim some (λ f. rw f) (either (ltb (result_for p q r i) (data_of (result_kind p) r)))
      where
        some : ltb (result_for p q r i) (data_of (result_kind p) r) ≡ true → not_taken_at p q r i ≡ 0
        some t =
            let j = result_for p q r i in
            let h : j < data_of (result_kind p) r = ltb-true j (data_of (result_kind p) r) t in
            absurd (none j h (sym (met-is p q r known.request (a.to j) j h (a.met j h)) ∙ request-back p q r known.request.keys i inside h))

    -- so all that it asked was taken
    pub unassigned-taken : taken_at p q r i ≡ asked_at p q i
    unassigned-taken = sym (add-zero (taken_at p q r i)) ∙ rw (← unassigned-not-taken) (each-request p q r fits e i inside)
