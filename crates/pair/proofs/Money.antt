-- The money: what each request took and did not take, and what all of them did, against the two trailers.
-- Assumes nothing.
use Prim.Native.Nat.{ℕ, ◌+◌, ◌≤◌, ◌<◌, zero-le}
use mathlib.Core.Bool.{Bool, true}
use mathlib.Core.List.{List}
use mathlib.Core.Path.{◌≡◌, refl, sym, ◌∙◌}
use mathlib.Core.Logic.{⊎_elim}
use native.Mathlib.Omega.{arith}
use borrow.Author.Tests.{ltb-true}
use lib.Dec.{ltb}
use lib.ListN.{length, get_or}
use Rattle.laws.specs.Part.{part}
use Rattle.laws.specs.Sum.{sum}
use Rattle.laws.proofs.Bools.{either}
use Rattle.laws.proofs.Sums.{sum_same, sum-add, sum-along}
use Rattle.numbers.specs.Numbers.{value_of}
use Rattle.kinds.specs.declared.of_files.Own.{Own}
use Rattle.tables.specs.declared.totals.Quantity.{Quantity}
use Rattle.tables.specs.declared.totals.Quantity.TheVariants.{Records, OfKind, AmountsMarked, MarkedByCentre}
use Rattle.tables.specs.Tables.{trailer_front, enrolment_trailer, enrolment_request_trailer, enrolment_result_trailer, debit_request_trailer, debit_result_trailer}
use Rattle.tables.specs.Places.{place_in}
use Rattle.tables.specs.Totals.{no_total, enrolment_totals, debit_request_totals, debit_result_totals, totals_of}
use Rattle.records.specs.Records.{data_of, trailer_of}
use Rattle.records.specs.Quantities.{worth, worth_at, quantity_of}
use Rattle.reader.specs.Meets.{Meets}
use Rattle.reader.proofs.Accepted.{total-value}
use Rattle.kinds.specs.declared.of_pairs.PairKind.{PairKind}
use Rattle.kinds.specs.declared.of_pairs.Family.{Family}
use Rattle.kinds.specs.declared.of_pairs.Family.TheVariants.{Enrolment, Debit}
use Rattle.kinds.specs.Pairs.{pair_kind, request_in, result_in, request_kind, result_kind}
use Rattle.agreement.specs.Amounts.{asks_in, asks}
use Rattle.pair.proofs.Marks.{debit-mark}
use Rattle.pair.proofs.Possible.{possible-most}
use Rattle.matching.specs.Matching.{request_for, result_for}
use Rattle.matching.specs.Amounts.{asked_at, taken_at, not_taken_by, not_taken_at}
use Rattle.pair.specs.Pairing.{pair_by, pair_as}
use Rattle.pair.specs.Trailers.{trailer_says, failed_as, asked_in, asked_in_all, failed_in, failed_in_all}
use Rattle.pair.proofs.Keys.{result-back, request-back}
use Rattle.pair.proofs.Matched.{Paired, pair-known, lent-pair, result-met}

module _ (p : PairKind) (q r : List ℕ) (h : Paired p q r) where
  -- no more was not taken than was asked
  not-taken-most : (i : ℕ) → i < data_of (request_kind p) q → not_taken_at p q r i ≤ asked_at p q i
  unfolding not_taken_at not_taken_by asked_at worth_at
  not-taken-most i l = ⊎_elim some (λ f. rw f zero-le) (either (ltb (result_for p q r i) (data_of (result_kind p) r)))
    where
      some : ltb (result_for p q r i) (data_of (result_kind p) r) ≡ true → not_taken_at p q r i ≤ asked_at p q i
      some t =
          rw t (possible-most p (result-met p q r h i l (ltb-true (result_for p q r i) (data_of (result_kind p) r) t)).possible)

  -- so both make up what was asked
  paired-request : (i : ℕ) → i < data_of (request_kind p) q → taken_at p q r i + not_taken_at p q r i ≡ asked_at p q i
  unfolding taken_at
  paired-request i l = omega (arith, not-taken-most i l)

  -- the results, summed over the requests that they answer
  failed-sum : (quantity : Quantity) → sum (failed_as p q r quantity) (data_of (request_kind p) q) ≡ quantity_of (result_kind p) r quantity
  unfolding failed_as quantity_of
  failed-sum quantity =
      sum-along (worth_at (result_kind p) r quantity) (request_for p q r) (result_for p q r) (data_of (request_kind p) q) (data_of (result_kind p) r)
      (λ j l. (h.each j l).inside)
      (λ j l. result-back p q r h.result.keys j l (h.each j l).inside)
      (λ i l g. request-back p q r h.request.keys i l g)

-- *Each request*: what was taken of it and what was not are what it asked
pub each-request :
    (p : PairKind) (q r : List ℕ) (fits : Bool) → (pair_by p q r fits).number ≡ 0 →
    (i : ℕ) → i < data_of (request_kind p) q → taken_at p q r i + not_taken_at p q r i ≡ asked_at p q i
each-request p q r fits e = paired-request p q r (pair-known p q r fits e)

-- the same where two lists are lent
pub each-request-lent :
    (p : PairKind) (q r : List ℕ) (taken notTaken : ℕ) → (pair_as p q r taken notTaken).number ≡ 0 →
    (i : ℕ) → i < data_of (request_kind p) q → taken_at p q r i + not_taken_at p q r i ≡ asked_at p q i
each-request-lent p q r taken notTaken e = each-request p q r true (lent-pair p q r taken notTaken e)

-- *Sums*: what the results add to each total, summed over all requests, is what the result's trailer says
pub result-totals :
    (p : PairKind) (q r : List ℕ) (fits : Bool) → (pair_by p q r fits).number ≡ 0 →
    (t : ℕ) → t < length (totals_of (result_kind p)) →
    sum (failed_as p q r (get_or (totals_of (result_kind p)) t no_total).3) (data_of (request_kind p) q) ≡
    value_of (part (get_or (totals_of (result_kind p)) t no_total).1 (get_or (totals_of (result_kind p)) t no_total).2 (trailer_of (result_kind p) r))
result-totals p q r fits e t l =
    let h = pair-known p q r fits e in
    failed-sum p q r h (get_or (totals_of (result_kind p)) t no_total).3 ∙ sym (total-value (result_kind p) r h.result t l)

-- what was not taken is what the results add to what is asked
pub not-taken-failed : (p : PairKind) (q r : List ℕ) (i : ℕ) → not_taken_at p q r i ≡ failed_as p q r (asks p) i
unfolding not_taken_at not_taken_by failed_as
not-taken-failed p q r i = refl

-- debit, of any kind: what was not taken, by the results' marks
module _ (a b : Own) where
  abbrev debit : PairKind
  debit = pair_kind Debit a b

  module _ (q r : List ℕ) (fits : Bool) (e : (pair_by debit q r fits).number ≡ 0) where
    -- of "N" results: item 7 of the result's trailer
    pub debit-none : sum (failed_as debit q r (AmountsMarked 0x4E)) (data_of (request_kind debit) q) ≡ trailer_says (result_kind debit) 7 r
    unfolding debit_result_totals trailer_says place_in trailer_front debit_result_trailer
    debit-none = result-totals debit q r fits e 2 (omega arith)

    -- of "P" results: item 9
    pub debit-part : sum (failed_as debit q r (AmountsMarked 0x50)) (data_of (request_kind debit) q) ≡ trailer_says (result_kind debit) 9 r
    unfolding debit_result_totals trailer_says place_in trailer_front debit_result_trailer
    debit-part = result-totals debit q r fits e 4 (omega arith)

    -- how many "N" results have a centre's code: item 10
    pub debit-centre : sum (failed_as debit q r (MarkedByCentre 0x4E)) (data_of (request_kind debit) q) ≡ trailer_says (result_kind debit) 10 r
    unfolding debit_result_totals trailer_says place_in trailer_front debit_result_trailer
    debit-centre = result-totals debit q r fits e 5 (omega arith)

    -- a result is one or the other
    either-mark : (i : ℕ) → not_taken_at debit q r i ≡ failed_as debit q r (AmountsMarked 0x4E) i + failed_as debit q r (AmountsMarked 0x50) i
    unfolding not_taken_at not_taken_by failed_as worth_at worth
    either-mark i = ⊎_elim some (λ f. rw f) (either (ltb (result_for debit q r i) (data_of (result_kind debit) r)))
      where
        some : ltb (result_for debit q r i) (data_of (result_kind debit) r) ≡ true → not_taken_at debit q r i ≡ failed_as debit q r (AmountsMarked 0x4E) i + failed_as debit q r (AmountsMarked 0x50) i
        some t =
            rw t (⊎_elim (λ n. rw n (omega arith)) (λ n. rw n (omega arith))
            (debit-mark b r (pair-known debit q r fits e).result (result_for debit q r i) (ltb-true (result_for debit q r i) (data_of (result_kind debit) r) t)))

    -- of all results: both together
    pub debit-not-taken : sum (not_taken_at debit q r) (data_of (request_kind debit) q) ≡ trailer_says (result_kind debit) 7 r + trailer_says (result_kind debit) 9 r
    debit-not-taken =
        sum-add (failed_as debit q r (AmountsMarked 0x4E)) (failed_as debit q r (AmountsMarked 0x50)) (not_taken_at debit q r) (data_of (request_kind debit) q) (λ k l. either-mark k) ∙
        rw (debit-none, debit-part)

-- enrolment, of any kind: what was not taken, in all and by application kind
module _ (a b : Own) where
  abbrev enrolment : PairKind
  enrolment = pair_kind Enrolment a b

  module _ (q r : List ℕ) (fits : Bool) (e : (pair_by enrolment q r fits).number ≡ 0) where
    -- in all: the count, item 5 of the result's trailer
    pub enrolment-not-taken : sum (not_taken_at enrolment q r) (data_of (request_kind enrolment) q) ≡ trailer_says (result_kind enrolment) 5 r
    unfolding enrolment_totals trailer_says place_in trailer_front enrolment_trailer enrolment_result_trailer
    enrolment-not-taken =
        sum_same (not_taken_at enrolment q r) (failed_as enrolment q r Records) (data_of (request_kind enrolment) q) (λ k l. not-taken-failed enrolment q r k) ∙
        result-totals enrolment q r fits e 0 (omega arith)

    -- of kind "1": item 6
    pub enrolment-kind-1 : sum (failed_as enrolment q r (OfKind 0x31)) (data_of (request_kind enrolment) q) ≡ trailer_says (result_kind enrolment) 6 r
    unfolding enrolment_totals trailer_says place_in trailer_front enrolment_trailer enrolment_result_trailer
    enrolment-kind-1 = result-totals enrolment q r fits e 1 (omega arith)

    -- of kind "3": item 8
    pub enrolment-kind-3 : sum (failed_as enrolment q r (OfKind 0x33)) (data_of (request_kind enrolment) q) ≡ trailer_says (result_kind enrolment) 8 r
    unfolding enrolment_totals trailer_says place_in trailer_front enrolment_trailer enrolment_result_trailer
    enrolment-kind-3 = result-totals enrolment q r fits e 2 (omega arith)

    -- of kind "7": item 9
    pub enrolment-kind-7 : sum (failed_as enrolment q r (OfKind 0x37)) (data_of (request_kind enrolment) q) ≡ trailer_says (result_kind enrolment) 9 r
    unfolding enrolment_totals trailer_says place_in trailer_front enrolment_trailer enrolment_result_trailer
    enrolment-kind-7 = result-totals enrolment q r fits e 3 (omega arith)

-- *Not taken*: all that was not taken is what the result's trailer says
not-taken-in :
    (f : Family) (a b : Own) (q r : List ℕ) (fits : Bool) → (pair_by (pair_kind f a b) q r fits).number ≡ 0 →
    sum (not_taken_at (pair_kind f a b) q r) (data_of (request_in f a) q) ≡ failed_in f (result_in f b) r
not-taken-in Enrolment a b q r fits e = enrolment-not-taken a b q r fits e
not-taken-in Debit a b q r fits e = debit-not-taken a b q r fits e

pub not-taken-in-all :
    (p : PairKind) (q r : List ℕ) (fits : Bool) → (pair_by p q r fits).number ≡ 0 →
    sum (not_taken_at p q r) (data_of (request_kind p) q) ≡ failed_in_all p r
not-taken-in-all p = not-taken-in p.family p.request p.result

-- what all requests ask is what the request's trailer says
asked_in_lem : (f : Family) (o : Own) (q : List ℕ) → Meets (request_in f o) q → quantity_of (request_in f o) q (asks_in f) ≡ asked_in f (request_in f o) q
unfolding enrolment_totals debit_request_totals trailer_says place_in trailer_front enrolment_trailer enrolment_request_trailer debit_request_trailer
asked_in_lem Enrolment o q m = sym (total-value (request_in Enrolment o) q m 0 (omega arith))
asked_in_lem Debit o q m = sym (total-value (request_in Debit o) q m 2 (omega arith))

asked-value : (p : PairKind) (q : List ℕ) → Meets (request_kind p) q → quantity_of (request_kind p) q (asks p) ≡ asked_in_all p q
asked-value p = asked_in_lem p.family p.request

-- *All asked*: all that was taken and all that was not are what the request's trailer says was asked
pub all_asked :
    (p : PairKind) (q r : List ℕ) (fits : Bool) → (pair_by p q r fits).number ≡ 0 →
    sum (taken_at p q r) (data_of (request_kind p) q) + sum (not_taken_at p q r) (data_of (request_kind p) q) ≡ asked_in_all p q
unfolding quantity_of asked_at
all_asked p q r fits e =
    let h = pair-known p q r fits e in
    sym (sum-add (taken_at p q r) (not_taken_at p q r) (asked_at p q) (data_of (request_kind p) q) (λ i l. sym (paired-request p q r h i l))) ∙
    asked-value p q h.request
