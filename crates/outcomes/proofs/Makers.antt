-- *Who said no*: the maker goes by the code, and the result's trailer counts the requests that the centre refused.
-- Assumes nothing.
use Prim.Native.Nat.{ℕ, ◌-◌}
use mathlib.Core.Bool.{Bool, true, false}
use mathlib.Core.List.{List}
use mathlib.Core.Path.{◌≡◌, refl, sym, ◌∙◌}
use mathlib.Core.Logic.{inr, ⊎_elim}
use borrow.Author.Tests.{ltb-true}
use lib.Dec.{eqb}
use Rattle.laws.specs.Sum.{sum}
use Rattle.laws.proofs.Bools.{either}
use Rattle.laws.proofs.Sums.{sum_same}
use Rattle.tables.specs.declared.totals.Quantity.TheVariants.{MarkedByCentre}
use Rattle.tables.specs.Makers.{maker_of}
use Rattle.tables.proofs.Making.{blank_none, bank-exactly, centre-exactly, none-exactly}
use Rattle.answers.specs.Answers.{refuses}
use Rattle.answers.proofs.Refusals.{refuses-zero}
use Rattle.records.specs.Records.{data_of}
use Rattle.records.specs.Quantities.{worth, worth_at}
use Rattle.kinds.specs.declared.of_files.Own.{Own}
use Rattle.kinds.specs.declared.of_pairs.PairKind.{PairKind}
use Rattle.kinds.specs.declared.of_pairs.Family.TheVariants.{Debit}
use Rattle.std.specs.Prelude.{Option, Some, None}
use Rattle.kinds.specs.Pairs.{pair_kind, request_kind, result_kind, pair_of}
use Rattle.agreement.specs.Marks.{mark_in, code_in}
use Rattle.agreement.specs.Same.{result_at}
use Rattle.matching.specs.Matching.{result_for}
use Rattle.pair.specs.Pairing.{pair_by}
use Rattle.pair.specs.Trailers.{trailer_says, failed_as}
use Rattle.pair.proofs.Marks.{Coded, debit-mark, result-code}
use Rattle.pair.proofs.Matched.{pair-known}
use Rattle.pair.proofs.Money.{debit-centre}
use Rattle.outcomes.specs.declared.cases.Outcome.{Outcome}
use Rattle.outcomes.specs.declared.cases.Outcome.TheVariants as cases
use Rattle.outcomes.specs.Outcomes.{maker_in, failed_by, outcome_at, asks_for, outcome_as, outcome_named, outcome_told}
use Rattle.outcomes.proofs.Outcome.{answered}
use Rattle.outcomes.specs.Makers.{code_told, MakerSays, refused_by_centre}

-- where the maker is the code's, and the code is one of the table or blank
says : (o : Outcome) → maker_in o ≡ maker_of (code_told o) → Coded (code_told o) → MakerSays o
says o e c = record { bank = rw e (bank-exactly (code_told o)); centre = rw e (centre-exactly (code_told o)); none = rw e (none-exactly (code_told o) c) }

module _ (p : PairKind) (q r : List ℕ) (i : ℕ) where
  -- *The maker*: of every outcome of an accepted pair
  pub maker-says : (fits : Bool) → (pair_by p q r fits).number ≡ 0 → MakerSays (outcome_at p q r i)
  unfolding outcome_at failed_by
  maker-says fits e = ⊎_elim some none (either (answered p q r i))
    where
      coded : answered p q r i ≡ true → Coded (code_in p (result_at p r (result_for p q r i)))
      coded t = result-code p r (pair-known p q r fits e).result (result_for p q r i) (ltb-true _ _ t)

      some : answered p q r i ≡ true → MakerSays (outcome_at p q r i)
      some t = rw t (⊎_elim (λ b. rw b (says _ refl (coded t))) (λ b. rw b (says _ refl (coded t))) (either (eqb (mark_in p (result_at p r (result_for p q r i))) 0x50)))

      none : answered p q r i ≡ false → MakerSays (outcome_at p q r i)
      none f = rw f (says _ (sym blank_none) (inr refl))

-- *The maker* of whatever is told: of a refusal too, which has no code and no maker
none-says : MakerSays cases.None
none-says = says cases.None (sym blank_none) (inr refl)

module _ (p : PairKind) (q r : List ℕ) (rec : ℕ) where
  abbrev Says : Type 0
  Says = MakerSays (outcome_as p q r rec).outcome

  as-says : Says
  unfolding outcome_as
  as-says = ⊎_elim bad good (either (refuses (pair_by p q r true)))
    where
      bad : refuses (pair_by p q r true) ≡ true → Says
      bad t = rw t none-says

      inside : refuses (pair_by p q r true) ≡ false → asks_for (data_of (request_kind p) q) rec ≡ true → Says
      inside f t = rw (f, t) (maker-says p q r (rec - 1) true (refuses-zero (pair_by p q r true) f))

      outside : refuses (pair_by p q r true) ≡ false → asks_for (data_of (request_kind p) q) rec ≡ false → Says
      outside f n = rw (f, n) none-says

      good : refuses (pair_by p q r true) ≡ false → Says
      good f = ⊎_elim (inside f) (outside f) (either (asks_for (data_of (request_kind p) q) rec))

named-says : (n : Option PairKind) (q r : List ℕ) (rec : ℕ) → MakerSays (outcome_named n q r rec).outcome
named-says (Some p) q r rec = as-says p q r rec
named-says None q r rec = none-says

pub maker-told : (kind : ℕ) (q r : List ℕ) (rec : ℕ) → MakerSays (outcome_told kind q r rec).outcome
unfolding outcome_told
maker-told kind q r rec = named-says (pair_of kind) q r rec

-- debits of any kind
module _ (a b : Own) where
  abbrev debit : PairKind
  debit = pair_kind Debit a b

  module _ (q r : List ℕ) (fits : Bool) (e : (pair_by debit q r fits).number ≡ 0) where
    -- what an outcome adds is what its result adds
    refused-is : (i : ℕ) → refused_by_centre (outcome_at debit q r i) ≡ failed_as debit q r (MarkedByCentre 0x4E) i
    unfolding outcome_at failed_by failed_as worth_at worth mark_in code_in
    refused-is i = ⊎_elim some (λ f. rw f) (either (answered debit q r i))
      where
        some : answered debit q r i ≡ true → refused_by_centre (outcome_at debit q r i) ≡ failed_as debit q r (MarkedByCentre 0x4E) i
        some t =
            rw t (⊎_elim (λ n. rw n) (λ n. rw n)
            (debit-mark b r (pair-known debit q r fits e).result (result_for debit q r i) (ltb-true _ _ t)))

    -- *Item 10*: as many requests were refused in full with the centre as maker as the result's trailer says
    pub refused-by-centre : sum (λ i. refused_by_centre (outcome_at debit q r i)) (data_of (request_kind debit) q) ≡ trailer_says (result_kind debit) 10 r
    refused-by-centre = sum_same _ (failed_as debit q r (MarkedByCentre 0x4E)) (data_of (request_kind debit) q) (λ i l. refused-is i) ∙ debit-centre a b q r fits e
