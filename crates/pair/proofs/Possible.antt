-- The amounts of a request and its result: what is told of them, and what is possible.
-- Assumes nothing.
use Prim.Native.Nat.{ℕ, ◌-◌, ◌≤◌, ◌<◌}
use mathlib.Core.Bool.{Bool, true, false, ◌&&◌}
use mathlib.Core.List.{List}
use mathlib.Core.Path.{◌≡◌, refl, sym, ◌∙◌}
use mathlib.Core.Logic.{⊎_elim}
use native.Mathlib.Omega.{arith}
use borrow.Author.Tests.{lt-ltb, le-leb, ltb-true, ltb-false, leb-true, leb-false, eq-eqb, ne_eqb, eqb-true, eqb-false}
use lib.Dec.{ltb, leb, eqb}
use lib.ListN.{get_or}
use Rattle.laws.proofs.Bools.{and_left, and_right, and_both, either, clash}
use Rattle.kinds.specs.declared.of_files.Own.{Own}
use Rattle.kinds.specs.Kinds.{fixed_of}
use Rattle.answers.specs.declared.told.Answer.{Answer}
use Rattle.answers.specs.Answers.{accepted}
use Rattle.layout.specs.Items.{amount_of, mark_of, type_of}
use Rattle.records.specs.Records.{data_of}
use Rattle.records.specs.Quantities.{worth}
use Rattle.reader.specs.Meets.{Meets}
use Rattle.kinds.specs.declared.of_pairs.PairKind.{PairKind}
use Rattle.kinds.specs.declared.of_pairs.Family.{Family}
use Rattle.kinds.specs.declared.of_pairs.Family.TheVariants.{Enrolment, Debit}
use Rattle.kinds.specs.Pairs.{pair_kind, result_in, result_kind}
use Rattle.agreement.specs.Amounts.{asks_in, asks, base_of, possible, part_of_one, debit_tells, amounts_in, amounts_tell}
use Rattle.agreement.specs.Marks.{mark_in}
use Rattle.agreement.specs.Same.{result_at}
use Rattle.agreement.specs.Possible.{base_for, PossibleIn, Possible, OnTypeOne, Impossible, AmountsRefused}
use Rattle.pair.proofs.Marks.{Marked, debit-mark, debit-amount}

-- what is told of the amounts
pub data AmountsTold (p : PairKind) (rec : ℕ) (request result : List ℕ) : Answer → Type 0 where
  good : Possible p request result → AmountsTold p rec request result accepted
  bad : {a : Answer} → AmountsRefused p rec request result a → AmountsTold p rec request result a

-- what `possible` tests of each mark
possible-whole : (least type mark a u : ℕ) → mark ≡ 0x4E → possible least type mark a u ≡ eqb u a
unfolding possible
possible-whole least type mark a u e = rw (eq-eqb mark 0x4E e)

possible-part : (least type mark a u : ℕ) → mark ≡ 0x50 → possible least type mark a u ≡ (ltb u a && leb (base_of least type) (a - u))
unfolding possible
possible-part least type mark a u e = rw (ne_eqb mark 0x4E (λ z. absurd (omega arith)))

module _ (a b : Own) (rec : ℕ) (request result : List ℕ) where
  -- a debit of any kind
  abbrev debit : PairKind
  debit = pair_kind Debit a b

  abbrev asked : ℕ
  asked = amount_of request

  abbrev missed : ℕ
  missed = amount_of result

  -- "P" on type "1", and what else is tested
  abbrev on_one : Bool
  on_one = part_of_one (mark_of result) (type_of request)

  abbrev fits : Bool
  fits = possible a.least (type_of request) (mark_of result) asked missed

  is_one : on_one ≡ true → OnTypeOne Debit request result
  unfolding part_of_one
  is_one t =
      OnTypeOne.one (eqb-true (mark_of result) 0x50 (and_left _ (eqb (type_of request) 0x31) t))
      (eqb-true (type_of request) 0x31 (and_right (eqb (mark_of result) 0x50) _ t))

  not-both : on_one ≡ false → mark_of result ≡ 0x50 → type_of request ≡ 0x31 → ⊥
  unfolding part_of_one
  not-both f m t = clash (and_both _ _ (eq-eqb (mark_of result) 0x50 m) (eq-eqb (type_of request) 0x31 t)) f

  not-one : on_one ≡ false → OnTypeOne Debit request result → ⊥
  not-one f (OnTypeOne.one m t) = not-both f m t

  module _ (marked : Marked (mark_of result)) where
    is-possible : 0 < missed → on_one ≡ false → fits ≡ true → Possible debit request result
    is-possible l f t = ⊎_elim whole part marked
      where
        whole : mark_of result ≡ 0x4E → Possible debit request result
        whole m = PossibleIn.nothing m (eqb-true missed asked (sym (possible-whole _ _ (mark_of result) asked missed m) ∙ t))

        part : mark_of result ≡ 0x50 → Possible debit request result
        part m =
            let e = sym (possible-part _ (type_of request) (mark_of result) asked missed m) ∙ t in
            PossibleIn.some m (not-both f m) l
            (ltb-true missed asked (and_left (ltb missed asked) (leb (base_for a.least request) (asked - missed)) e))
            (leb-true (base_for a.least request) (asked - missed) (and_right (ltb missed asked) (leb (base_for a.least request) (asked - missed)) e))

    is-impossible : fits ≡ false → Impossible a.least Debit request result
    is-impossible f = ⊎_elim whole part marked
      where
        whole : mark_of result ≡ 0x4E → Impossible a.least Debit request result
        whole m = Impossible.other m (eqb-false missed asked (sym (possible-whole _ _ (mark_of result) asked missed m) ∙ f))

        less : mark_of result ≡ 0x50 → ltb missed asked ≡ true → Impossible a.least Debit request result
        less m t =
            Impossible.under m (ltb-true missed asked t)
            (leb-false (base_for a.least request) (asked - missed) (rw t at (sym (possible-part _ (type_of request) (mark_of result) asked missed m) ∙ f)))

        part : mark_of result ≡ 0x50 → Impossible a.least Debit request result
        part m = ⊎_elim (less m) (λ n. Impossible.none m (ltb-false missed asked n)) (either (ltb missed asked))

    abbrev Debit-told : Type 0
    Debit-told = AmountsTold debit rec request result (debit_tells a.least rec request result)

    debit-told : 0 < missed → Debit-told
    unfolding debit_tells
    debit-told l = ⊎_elim one (λ f. ⊎_elim (right f) (wrong f) (either fits)) (either on_one)
      where
        one : on_one ≡ true → Debit-told
        one t = rw t (AmountsTold.bad (AmountsRefused.type_one (is_one t)))

        right : on_one ≡ false → fits ≡ true → Debit-told
        right f t = rw (f, t) (AmountsTold.good (is-possible l f t))

        wrong : on_one ≡ false → fits ≡ false → Debit-told
        wrong f n = rw (f, n) (AmountsTold.bad (AmountsRefused.amount (not-one f) (is-impossible n)))

-- what is told of the amounts of a request and a result that was read
told_in :
    (f : Family) (a b : Own) (rec : ℕ) (request r : List ℕ) → Meets (result_in f b) r → (j : ℕ) → j < data_of (result_in f b) r →
    AmountsTold (pair_kind f a b) rec request (result_at (pair_kind f a b) r j) (amounts_in f a.least rec request (result_at (pair_kind f a b) r j))
told_in Enrolment a b rec request r m j h = AmountsTold.good PossibleIn.enrolled
told_in Debit a b rec request r m j h =
    debit-told a b rec request (result_at (pair_kind Debit a b) r j) (debit-mark b r m j h) (debit-amount b r m j h)

pub amounts-told :
    (p : PairKind) (rec : ℕ) (request r : List ℕ) → Meets (result_kind p) r → (j : ℕ) → j < data_of (result_kind p) r →
    AmountsTold p rec request (result_at p r j) (amounts_tell p rec request (result_at p r j))
amounts-told p = told_in p.family p.request p.result

-- possible amounts are accepted
possible-in : (f : Family) (least rec : ℕ) {request result : List ℕ} → PossibleIn least f request result → amounts_in f least rec request result ≡ accepted
unfolding debit_tells part_of_one possible
possible-in Enrolment least rec PossibleIn.enrolled = refl
possible-in Debit least rec {request} {result} (PossibleIn.nothing n e) = rw (n, eq-eqb (amount_of result) (amount_of request) e)
possible-in Debit least rec {request} {result} (PossibleIn.some t ne l less base) =
    rw (
      t,
      ne_eqb (type_of request) 0x31 ne,
      lt-ltb (amount_of result) (amount_of request) less,
      le-leb (base_for least request) (amount_of request - amount_of result) base,
    )

pub possible-told : (p : PairKind) (rec : ℕ) {request result : List ℕ} → Possible p request result → amounts_tell p rec request result ≡ accepted
possible-told p rec x = possible-in p.family p.request.least rec x

-- a possible result says no more than was asked, and all of it where its mark is "N"
most-in : (f : Family) (least : ℕ) {request result : List ℕ} → PossibleIn least f request result → worth (asks_in f) result ≤ worth (asks_in f) request
unfolding worth
most-in Enrolment least PossibleIn.enrolled = omega arith
most-in Debit least (PossibleIn.nothing n e) = omega arith
most-in Debit least (PossibleIn.some t ne l less base) = omega arith

pub possible-most : (p : PairKind) {request result : List ℕ} → Possible p request result → worth (asks p) result ≤ worth (asks p) request
possible-most p x = most-in p.family p.request.least x

all_in :
    (f : Family) (o : Own) (least : ℕ) {request result : List ℕ} → PossibleIn least f request result →
    get_or result (fixed_of (result_in f o)).mark 0 ≡ 0x4E → worth (asks_in f) result ≡ worth (asks_in f) request
unfolding worth
all_in Enrolment o least PossibleIn.enrolled z = refl
all_in Debit o least (PossibleIn.nothing n e) z = e
all_in Debit o least (PossibleIn.some t ne l less base) z = absurd (omega arith)

pub possible-all :
    (p : PairKind) {request result : List ℕ} → Possible p request result → mark_in p result ≡ 0x4E → worth (asks p) result ≡ worth (asks p) request
unfolding mark_in
possible-all p x z = all_in p.family p.result p.request.least x z
