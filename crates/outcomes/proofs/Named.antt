-- The same by number: a pair kind is named by its request's kind.
-- Assumes nothing.
use Prim.Native.Nat.{ℕ, ◌+◌, ◌-◌, ◌≤◌, ◌<◌}
use mathlib.Core.Bool.{true}
use mathlib.Core.List.{List}
use mathlib.Core.Path.{◌≡◌, ◌∙◌}
use native.Mathlib.Omega.{arith}
use Rattle.laws.specs.Sum.{sum}
use Rattle.laws.proofs.Sums.{sum_same}
use Rattle.answers.specs.Answers.{refused, on_side}
use Rattle.records.specs.Records.{data_of}
use Rattle.reader.specs.Reading.{read_as}
use Rattle.kinds.specs.declared.of_pairs.PairKind.{PairKind}
use Rattle.std.specs.Prelude.{Some, None}
use Rattle.kinds.specs.declared.of_files.Own.{Own}
use Rattle.kinds.specs.declared.of_pairs.Family.TheVariants.{Debit}
use Rattle.kinds.specs.Pairs.{pair_kind, request_in, result_in, request_kind, result_kind, pair_of}
use Rattle.pair.specs.Pairing.{pair_by, pair_told, taken_after, not_taken_after}
use Rattle.pair.specs.Trailers.{trailer_says}
use Rattle.pair.proofs.Matched.{lent-pair}
use Rattle.pair.proofs.Named.{pair-named, taken-named, not-taken-named}
use Rattle.outcomes.specs.declared.cases.Outcome.TheVariants as cases
use Rattle.outcomes.specs.declared.cases.Outcome.TheVariants.{Whole}
use Rattle.outcomes.specs.Outcomes.{told, outcome_at, outcome_as, outcome_told}
use Rattle.outcomes.specs.Listed.{Listed, Paid}
use Rattle.outcomes.specs.Makers.{refused_by_centre}
use Rattle.outcomes.proofs.Makers.{refused-by-centre}
use Rattle.outcomes.proofs.Outcome.{outcome-asked, outcome-listed}
use Rattle.outcomes.proofs.Guess.{result-refused, whole-only}

module _ (kind : ℕ) (q r : List ℕ) where
  -- a number that names no pair kind
  pub outcome-unknown : (rec : ℕ) → pair_of kind ≡ None → outcome_told kind q r rec ≡ told (refused 1) cases.None
  unfolding outcome_told
  outcome-unknown rec e = rw e

  -- a number that names one
  module _ (p : PairKind) (named : pair_of kind ≡ Some p) where
    pub outcome-named : (rec : ℕ) → outcome_told kind q r rec ≡ outcome_as p q r rec
    unfolding outcome_told
    outcome-named rec = rw named

    pub whole-named : (rec taken : ℕ) → (outcome_told kind q r rec).outcome ≡ Whole taken → Paid p q r rec taken
    whole-named rec taken e = whole-only p q r rec taken (rw (outcome-named rec) at e)

    module _ (taken notTaken : ℕ) where
      -- *No guess*
      pub refused-named :
          (read_as (request_kind p) q).number ≡ 0 → ((read_as (result_kind p) r).number ≡ 0 → ⊥) →
          pair_told kind q r taken notTaken ≡ on_side 2 (read_as (result_kind p) r)
      refused-named e ne = pair-named kind q r p named taken notTaken ∙ result-refused p q r taken notTaken e ne

      -- *One outcome*
      pub listed-named :
          (pair_told kind q r taken notTaken).number ≡ 0 → (rec : ℕ) → 1 ≤ rec → rec ≤ data_of (request_kind p) q → (l m : List ℕ) →
          Listed (outcome_told kind q r rec) (taken_after kind q r taken notTaken l) (not_taken_after kind q r taken notTaken m) (rec - 1)
      listed-named e rec first last l m =
          rw (outcome-named rec, taken-named kind q r p named taken notTaken l, not-taken-named kind q r p named taken notTaken m)
          (outcome-listed p q r rec first last taken notTaken (rw (pair-named kind q r p named taken notTaken) at e) l m)

-- *Item 10* of a debit's result, by what is told of each request
module _ (kind : ℕ) (a b : Own) (named : pair_of kind ≡ Some (pair_kind Debit a b)) (q r : List ℕ) (taken notTaken : ℕ) where
  pub centre-named :
      (pair_told kind q r taken notTaken).number ≡ 0 →
      sum (λ i. refused_by_centre (outcome_told kind q r (i + 1)).outcome) (data_of (request_in Debit a) q) ≡ trailer_says (result_in Debit b) 10 r
  centre-named e = sum_same _ (λ i. refused_by_centre (outcome_at p q r i)) (data_of (request_in Debit a) q) (λ i l. each i l) ∙ refused-by-centre a b q r true good
    where
      p : PairKind
      p = pair_kind Debit a b

      good : (pair_by p q r true).number ≡ 0
      good = lent-pair p q r taken notTaken (rw (pair-named kind q r p named taken notTaken) at e)

      each : (i : ℕ) → i < data_of (request_in Debit a) q → refused_by_centre (outcome_told kind q r (i + 1)).outcome ≡ refused_by_centre (outcome_at p q r i)
      each i l =
          let less : (i + 1) - 1 ≡ i = omega arith in
          rw (outcome-named kind q r p named (i + 1), outcome-asked p q r (i + 1) (omega arith) (omega arith) good, less)
