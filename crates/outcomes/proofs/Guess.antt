-- *No guess*: a result that is refused, empty or cut short is never taken as "all paid".
-- Assumes nothing.
use Prim.Native.Nat.{ℕ, ◌-◌, ◌<◌}
use mathlib.Core.Bool.{Bool, true, false}
use mathlib.Core.List.{List, []}
use mathlib.Core.Path.{◌≡◌, sym, ◌∙◌, ap}
use mathlib.Core.Logic.{⊎_elim}
use native.Mathlib.Omega.{arith}
use lib.ListN.{length, take}
use Rattle.laws.proofs.Bools.{either}
use Rattle.answers.specs.declared.told.Answer.{Answer}
use Rattle.answers.specs.Answers.{accepted, refused, refuses, on_side}
use Rattle.answers.proofs.Refusals.{refuses-zero, number_of}
use Rattle.records.specs.Records.{data_of}
use Rattle.reader.specs.Reading.{read_as}
use Rattle.reader.proofs.Cut.{cut_short}
use Rattle.reader.proofs.Marking.{read-nothing}
use Rattle.kinds.specs.declared.of_pairs.PairKind.{PairKind}
use Rattle.kinds.specs.Pairs.{request_kind, result_kind}
use Rattle.reader.proofs.Accepted.{read-zero, meets-zero}
use Rattle.matching.specs.Amounts.{taken_at, not_taken_at}
use Rattle.pair.specs.Pairing.{pair_by, lists_fit, pair_as}
use Rattle.pair.proofs.Stages.{by_result}
use Rattle.pair.proofs.Matched.{pair-known}
use Rattle.pair.proofs.Money.{each-request}
use Rattle.outcomes.specs.declared.cases.Outcome.TheVariants.{None, Whole}
use Rattle.outcomes.specs.Outcomes.{numbers_of, outcome_at, asks_for, outcome_as}
use Rattle.outcomes.specs.Listed.{NoResult, OutcomeSays, Paid}
use Rattle.outcomes.proofs.Outcome.{asks-for-is, one-outcome}

module _ (p : PairKind) (q r : List ℕ) where
  -- a result that reading refuses is told on side 2, with the reader's own answer
  pub result-refused :
      (taken notTaken : ℕ) → (read_as (request_kind p) q).number ≡ 0 → ((read_as (result_kind p) r).number ≡ 0 → ⊥) →
      pair_as p q r taken notTaken ≡ on_side 2 (read_as (result_kind p) r)
  unfolding pair_as
  result-refused taken notTaken = by_result p q r (lists_fit (data_of (request_kind p) q) taken notTaken)

  -- whatever the request is, such a pair is not accepted
  pub result-needed : (fits : Bool) → ((read_as (result_kind p) r).number ≡ 0 → ⊥) → (pair_by p q r fits).number ≡ 0 → ⊥
  result-needed fits ne e = ne (meets-zero (result_kind p) r (pair-known p q r fits e).result)

-- a result of no bytes
pub result-empty : (p : PairKind) (q : List ℕ) (fits : Bool) → (read_as (request_kind p) q).number ≡ 0 → pair_by p q [] fits ≡ on_side 2 (refused 2)
result-empty p q fits e =
    by_result p q [] fits e (λ z. absurd (omega (arith, number_of (sym empty) ∙ z))) ∙ ap (λ (a : Answer). on_side 2 a) empty
  where
    empty : read_as (result_kind p) [] ≡ refused 2
    empty = read-nothing (result_kind p)

-- a good result cut short
module _ (p : PairKind) (q r : List ℕ) (fits : Bool) (good : read_as (result_kind p) r ≡ accepted) (m : ℕ) (less : m < length r) where
  cut-refused : (read_as (result_kind p) (take m r)).number ≡ 0 → ⊥
  cut-refused z = cut_short (result_kind p) r m less good (read-zero (result_kind p) (take m r) z)

  pub result-cut : (pair_by p q (take m r) fits).number ≡ 0 → ⊥
  result-cut = result-needed p q (take m r) fits cut-refused

  pub cut-side : (read_as (request_kind p) q).number ≡ 0 → (pair_by p q (take m r) fits).side ≡ 2
  cut-side e = ap (λ (a : Answer). a.side) (by_result p q (take m r) fits e cut-refused)

-- no outcome is not a whole one
not_none : (taken : ℕ) → None ≡ Whole taken → ⊥
not_none taken e = let z : ◌≡◌ {A = ℕ} 0 1 = cc in omega arith

module _ (p : PairKind) (q r : List ℕ) where
  -- what the numbers of a whole outcome say
  abbrev Whole-says : ℕ → ℕ → Type 0
  Whole-says i taken = NoResult p q r i × ((taken ≡ taken_at p q r i) × (0 ≡ not_taken_at p q r i))

  said-whole : (i taken : ℕ) (l : List ℕ) → OutcomeSays p q r i l → l ≡ numbers_of (Whole taken) → Whole-says i taken
  said-whole i taken l (OutcomeSays.whole n) e = (n, (cc, cc))
  said-whole i taken l (OutcomeSays.part j x m) e = absurd (let z : ◌≡◌ {A = ℕ} 2 1 = cc in omega arith)
  said-whole i taken l (OutcomeSays.refused j x m) e = absurd (let z : ◌≡◌ {A = ℕ} 3 1 = cc in omega arith)

  module _ (rec taken : ℕ) where
    abbrev Gives : Type 0
    Gives = (outcome_as p q r rec).outcome ≡ Whole taken → Paid p q r rec taken

    -- whole only where the pair is accepted and the request has no result; then all that was asked was taken
    pub whole-only : Gives
    unfolding outcome_as
    whole-only = ⊎_elim bad good (either (refuses (pair_by p q r true)))
      where
        bad : refuses (pair_by p q r true) ≡ true → Gives
        bad t e = absurd (not_none taken (rw t at e))

        outside : refuses (pair_by p q r true) ≡ false → asks_for (data_of (request_kind p) q) rec ≡ false → Gives
        outside f n e = absurd (not_none taken (rw (f, n) at e))

        inside : refuses (pair_by p q r true) ≡ false → asks_for (data_of (request_kind p) q) rec ≡ true → Gives
        inside f t e =
            let w : outcome_at p q r (rec - 1) ≡ Whole taken = rw (f, t) at e in
            let z = refuses-zero (pair_by p q r true) f in
            let asked = asks-for-is (data_of (request_kind p) q) rec t in
            let below : rec - 1 < data_of (request_kind p) q = omega (arith, asked.0, asked.1) in
            let says = said-whole (rec - 1) taken _ (one-outcome p q r true z (rec - 1) below) (ap numbers_of w) in
            record {
              pair = z;
              first = asked.0;
              last = asked.1;
              none = says.0;
              all = omega (arith, says.1.0, says.1.1, each-request p q r true z (rec - 1) below);
            }

        good : refuses (pair_by p q r true) ≡ false → Gives
        good f = ⊎_elim (inside f) (outside f) (either (asks_for (data_of (request_kind p) q) rec))

    -- so never of a result that reading refuses
    pub never-whole : ((read_as (result_kind p) r).number ≡ 0 → ⊥) → (outcome_as p q r rec).outcome ≡ Whole taken → ⊥
    never-whole ne e = result-needed p q r true ne (whole-only e).pair
