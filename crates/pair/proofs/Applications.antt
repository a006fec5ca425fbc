-- Enrolment by application kind: what was taken and what was not, against both trailers.
-- Assumes nothing.
use Prim.Native.Nat.{ℕ, ◌+◌, ◌<◌}
use mathlib.Core.Bool.{Bool, true, false, cond}
use mathlib.Core.List.{List}
use mathlib.Core.Path.{◌≡◌, refl, sym, ◌∙◌, ap}
use mathlib.Core.Logic.{⊎_elim}
use native.Mathlib.Nat.{add-zero}
use native.Mathlib.Omega.{arith}
use borrow.Author.Tests.{ltb-true}
use lib.Dec.{eqb, ltb}
use lib.ListN.{get_or}
use Rattle.laws.specs.Part.{part}
use Rattle.laws.specs.Sum.{sum}
use Rattle.laws.proofs.Bools.{either}
use Rattle.laws.proofs.Parts.{part_at}
use Rattle.laws.proofs.Sums.{sum_same, sum-add}
use Rattle.kinds.specs.declared.of_files.Own.{Own}
use Rattle.tables.specs.declared.totals.Quantity.TheVariants.{OfKind}
use Rattle.tables.specs.Copied.{among, items_but, enrolment_copied}
use Rattle.tables.specs.Tables.{data_front, enrolment_data, enrolment_request_data, trailer_front, enrolment_trailer, enrolment_request_trailer}
use Rattle.tables.specs.Places.{place_in}
use Rattle.tables.specs.Totals.{enrolment_totals}
use Rattle.layout.specs.Items.{application_of}
use Rattle.records.specs.Records.{data_of}
use Rattle.records.specs.Quantities.{worth, worth_at, quantity_of}
use Rattle.reader.proofs.Accepted.{total-value}
use Rattle.kinds.specs.declared.of_pairs.PairKind.{PairKind}
use Rattle.kinds.specs.declared.of_pairs.Family.TheVariants.{Enrolment}
use Rattle.kinds.specs.Pairs.{pair_kind, request_kind, result_kind}
use Rattle.agreement.specs.Same.{request_at, result_at, Agree}
use Rattle.matching.specs.Matching.{result_for}
use Rattle.matching.specs.Amounts.{asked_at, taken_at, not_taken_by, not_taken_at}
use Rattle.pair.specs.Pairing.{pair_by}
use Rattle.pair.specs.Trailers.{trailer_says, failed_as, of_kind, KindTotals}
use Rattle.pair.proofs.Matched.{pair-known, result-met}
use Rattle.pair.proofs.Money.{each-request, enrolment-kind-1, enrolment-kind-3, enrolment-kind-7}

-- a result copies its request's application kind
agree-application : (a b : Own) (request result : List ℕ) → Agree (pair_kind Enrolment a b) request result → application_of request ≡ application_of result
unfolding enrolment_copied items_but among enrolment_request_data enrolment_data data_front
agree-application a b request result h = sym (byte request) ∙ (ap (λ (l : List ℕ). get_or l 0 0) (h 2 (omega arith)) ∙ byte result)
  where
    byte : (rec : List ℕ) → get_or (part 25 1 rec) 0 0 ≡ get_or rec 25 0
    byte rec = part_at 25 1 rec 0 (omega arith) ∙ rw add-zero

-- nothing, whatever is tested
neither : (c : Bool) → ◌≡◌ {A = ℕ} (cond c 0 0) 0
neither true = refl
neither false = refl

module _ (a c : Own) where
  abbrev enrolment : PairKind
  enrolment = pair_kind Enrolment a c

  module _ (q r : List ℕ) (fits : Bool) (e : (pair_by enrolment q r fits).number ≡ 0) where
    -- what was not taken of requests of a kind is what results of that kind add
    failed-of : (b i : ℕ) → i < data_of (request_kind enrolment) q → of_kind enrolment b q (not_taken_at enrolment q r) i ≡ failed_as enrolment q r (OfKind b) i
    unfolding of_kind not_taken_at not_taken_by failed_as worth_at worth
    failed-of b i h = ⊎_elim some (λ f. rw f (neither (eqb (application_of (request_at enrolment q i)) b))) (either (ltb (result_for enrolment q r i) (data_of (result_kind enrolment) r)))
      where
        some : ltb (result_for enrolment q r i) (data_of (result_kind enrolment) r) ≡ true → of_kind enrolment b q (not_taken_at enrolment q r) i ≡ failed_as enrolment q r (OfKind b) i
        some t =
            let met = result-met enrolment q r (pair-known enrolment q r fits e) i h (ltb-true (result_for enrolment q r i) (data_of (result_kind enrolment) r) t) in
            rw (t, agree-application a c (request_at enrolment q i) (result_at enrolment r (result_for enrolment q r i)) met.agree)

    -- what was taken of a request and what was not are the one enrolment that it asks
    asked_of : (b i : ℕ) → i < data_of (request_kind enrolment) q → worth_at (request_kind enrolment) q (OfKind b) i ≡ of_kind enrolment b q (taken_at enrolment q r) i + of_kind enrolment b q (not_taken_at enrolment q r) i
    unfolding of_kind worth_at worth asked_at
    asked_of b i h = ⊎_elim (λ t. rw t (sym (each-request enrolment q r fits e i h))) (λ f. rw f) (either (eqb (application_of (request_at enrolment q i)) b))

    kind-totals :
        (b item : ℕ) → trailer_says (request_kind enrolment) item q ≡ quantity_of (request_kind enrolment) q (OfKind b) →
        sum (failed_as enrolment q r (OfKind b)) (data_of (request_kind enrolment) q) ≡ trailer_says (result_kind enrolment) item r → KindTotals enrolment q r b item
    unfolding quantity_of
    kind-totals b item said failed = record {
      failed = sum_same (of_kind enrolment b q (not_taken_at enrolment q r)) (failed_as enrolment q r (OfKind b)) (data_of (request_kind enrolment) q) (failed-of b) ∙ failed;
      asked =
          sym (sum-add (of_kind enrolment b q (taken_at enrolment q r)) (of_kind enrolment b q (not_taken_at enrolment q r)) (worth_at (request_kind enrolment) q (OfKind b)) (data_of (request_kind enrolment) q) (asked_of b)) ∙
          sym said;
    }

    -- *By application kind*: new, item 6; cancelled, item 8; cancelled by the bank, item 9
    pub enrolment-new : KindTotals enrolment q r 0x31 6
    unfolding enrolment_totals trailer_says place_in trailer_front enrolment_trailer enrolment_request_trailer
    enrolment-new = kind-totals 0x31 6 (total-value (request_kind enrolment) q (pair-known enrolment q r fits e).request 1 (omega arith)) (enrolment-kind-1 a c q r fits e)

    pub enrolment-cancelled : KindTotals enrolment q r 0x33 8
    unfolding enrolment_totals trailer_says place_in trailer_front enrolment_trailer enrolment_request_trailer
    enrolment-cancelled = kind-totals 0x33 8 (total-value (request_kind enrolment) q (pair-known enrolment q r fits e).request 2 (omega arith)) (enrolment-kind-3 a c q r fits e)

    pub enrolment-ended : KindTotals enrolment q r 0x37 9
    unfolding enrolment_totals trailer_says place_in trailer_front enrolment_trailer enrolment_request_trailer
    enrolment-ended = kind-totals 0x37 9 (total-value (request_kind enrolment) q (pair-known enrolment q r fits e).request 3 (omega arith)) (enrolment-kind-7 a c q r fits e)
