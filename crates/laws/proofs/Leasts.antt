-- The laws of `least`: a loop that looks for a first place is `least_start`, `least_more` and `least-stop`; the plain side is the rest.
-- Assumes nothing.
use Prim.Native.Nat.{ℕ, zero, suc, ◌+◌, ◌≤◌, ◌<◌, zero-le}
use mathlib.Core.Bool.{Bool, true, false}
use mathlib.Core.Path.{◌≡◌, refl, sym, ◌∙◌}
use mathlib.Core.Logic.{⊎_elim}
use native.Mathlib.Nat.{le_refl, eq-or-lt_of_le, le_of_suc-le-suc, not-suc-le-zero}
use native.Mathlib.Numerals.{add-one}
use native.Mathlib.Omega.{arith}
use borrow.Author.Tests.{lt-ltb, le-ltb, ltb-true, ltb-false, eq-eqb, ne_eqb, eqb-true}
use lib.Dec.{ltb, eqb}
use Rattle.laws.specs.Least.{least, further, some, none, number_in}
use Rattle.laws.proofs.Bools.{either, clash}

-- what is found below n stays; else place n is the first, or there is none
further-found : (p : ℕ → Bool) (n m : ℕ) → m < n → further p n m ≡ m
unfolding further
further-found p n m h = rw (lt-ltb m n h)

further-here : (p : ℕ → Bool) (n : ℕ) → p n ≡ true → further p n n ≡ n
unfolding further
further-here p n h = rw (le-ltb n n (le_refl n), h)

further-none : (p : ℕ → Bool) (n : ℕ) → p n ≡ false → further p n n ≡ suc n
unfolding further
further-none p n h = rw (le-ltb n n (le_refl n), h)

-- what `least` is, in one record: it lies within n, p holds there if it lies below n, and p fails before it
pub record Least (p : ℕ → Bool) (n m : ℕ) : Type 0 where
  pub within : m ≤ n
  pub holds : m < n → p m ≡ true
  pub before : (k : ℕ) → k < m → p k ≡ false

further-least : (p : ℕ → Bool) (n m : ℕ) → Least p n m → Least p (suc n) (further p n m)
further-least p n m l = ⊎_elim here found (eq-or-lt_of_le l.within)
  where
    found : m < n → Least p (suc n) (further p n m)
    found h = rw (further-found p n m h) (record { within = omega arith; holds = λ _. l.holds h; before = l.before })

    at : m ≡ n → Least p (suc n) (further p n n)
    at e =
        ⊎_elim
        (λ t. rw (further-here p n t) (record { within = omega arith; holds = λ _. t; before = λ k h. l.before k (omega arith) }))
        (λ f. rw (further-none p n f) (record {
          within = omega arith;
          holds = λ h. absurd (omega arith);
          before = λ k h. ⊎_elim (λ q. rw q f) (λ lt. l.before k (omega arith)) (eq-or-lt_of_le (le_of_suc-le-suc h));
        }))
        (either (p n))

    here : m ≡ n → Least p (suc n) (further p n m)
    here e = rw e (at e)

pub least-is : (p : ℕ → Bool) (n : ℕ) → Least p n (least p n)
unfolding least
least-is p zero = record { within = zero-le; holds = λ h. absurd (not-suc-le-zero h); before = λ k h. absurd (not-suc-le-zero h) }
least-is p (suc n) = further-least p n (least p n) (least-is p n)

-- there is only one such place
pub least-only : (p : ℕ → Bool) (n a b : ℕ) → Least p n a → Least p n b → a ≡ b
least-only p n a b l r = ⊎_elim first (λ h. ⊎_elim second (λ g. omega (arith, ltb-false)) (either (ltb b a))) (either (ltb a b))
  where
    first : ltb a b ≡ true → a ≡ b
    first h = let lt : a < b = ltb-true a b h in absurd (clash (l.holds (omega arith)) (r.before a lt))

    second : ltb b a ≡ true → a ≡ b
    second h = let lt : b < a = ltb-true b a h in absurd (clash (r.holds (omega arith)) (l.before b lt))

-- a loop that looks for the first place: nothing was found below i, so far `least p i ≡ i`
pub least_start : (p : ℕ → Bool) → least p 0 ≡ 0
unfolding least
least_start p = refl

pub least_more : (p : ℕ → Bool) (i : ℕ) → least p i ≡ i → p i ≡ false → least p (i + 1) ≡ i + 1
unfolding least
least_more p i e f = rw (add-one, e, further-none p i f)

pub least-before : (p : ℕ → Bool) (i : ℕ) → least p i ≡ i → (k : ℕ) → k < i → p k ≡ false
least-before p i e k h = (least-is p i).before k (omega arith)

pub least-stop : (p : ℕ → Bool) (i n : ℕ) → i < n → least p i ≡ i → p i ≡ true → least p n ≡ i
least-stop p i n h e t =
    least-only p n (least p n) i (least-is p n)
    (record { within = omega arith; holds = λ _. t; before = least-before p i e })

-- none up to i, so the first is past it
pub least-past : (p : ℕ → Bool) (i n : ℕ) → i < n → least p (i + 1) ≡ i + 1 → i < least p n
least-past p i n h e =
    ⊎_elim (λ t. ltb-true i (least p n) t)
    (λ f. let l : least p n ≤ i = ltb-false i (least p n) f in absurd (clash ((least-is p n).holds (omega arith)) (least-before p (i + 1) e (least p n) (omega arith))))
    (either (ltb i (least p n)))

-- none below n
pub least-none : (p : ℕ → Bool) (n : ℕ) → ((k : ℕ) → k < n → p k ≡ false) → least p n ≡ n
least-none p n f =
    least-only p n (least p n) n (least-is p n) (record { within = le_refl n; holds = λ h. absurd (omega arith); before = f })

-- nothing before the first place
pub least-again : (p : ℕ → Bool) (n : ℕ) → least p (least p n) ≡ least p n
least-again p n = least-none p (least p n) (least-is p n).before

-- some below n
pub least-some : (p : ℕ → Bool) (n k : ℕ) → k < n → p k ≡ true → least p n < n
least-some p n k h t = ⊎_elim (λ e. absurd (clash t (least-before p n e k h))) (λ lt. lt) (eq-or-lt_of_le (least-is p n).within)

-- the same places, the same first place
pub least-same : (p q : ℕ → Bool) (n : ℕ) → ((k : ℕ) → k < n → p k ≡ q k) → least p n ≡ least q n
least-same p q n f =
    least-only p n (least p n) (least q n) (least-is p n)
    (record {
      within = (least-is q n).within;
      holds = λ h. f (least q n) h ∙ (least-is q n).holds h;
      before = λ k h. f k (omega (arith, (least-is q n).within)) ∙ (least-is q n).before k h;
    })

-- `none` and `some` as tests
pub none_true : (p : ℕ → Bool) (n : ℕ) → least p n ≡ n → none p n ≡ true
unfolding none
none_true p n e = eq-eqb (least p n) n e

pub none-false : (p : ℕ → Bool) (i n : ℕ) → i < n → least p i ≡ i → p i ≡ true → none p n ≡ false
unfolding none
none-false p i n h e t = ne_eqb (least p n) n (λ q. absurd (omega (arith, least-stop p i n h e t)))

pub none_each : (p : ℕ → Bool) (n : ℕ) → none p n ≡ true → (k : ℕ) → k < n → p k ≡ false
unfolding none
none_each p n t = least-before p n (eqb-true (least p n) n t)

pub none-if : (p : ℕ → Bool) (n : ℕ) → ((k : ℕ) → k < n → p k ≡ false) → none p n ≡ true
none-if p n f = none_true p n (least-none p n f)

-- one place more
pub none_more : (p : ℕ → Bool) (n : ℕ) → p n ≡ false → none p (n + 1) ≡ none p n
unfolding none
none_more p n f = ⊎_elim all some (eq-or-lt_of_le (least-is p n).within)
  where
    all : least p n ≡ n → eqb (least p (n + 1)) (n + 1) ≡ eqb (least p n) n
    all e = eq-eqb (least p (n + 1)) (n + 1) (least_more p n e f) ∙ sym (eq-eqb (least p n) n e)

    some : least p n < n → eqb (least p (n + 1)) (n + 1) ≡ eqb (least p n) n
    some h =
        let l = least-some p (n + 1) (least p n) (omega arith) ((least-is p n).holds h) in
        ne_eqb (least p (n + 1)) (n + 1) (λ q. absurd (omega (arith, q, l))) ∙ sym (ne_eqb (least p n) n (λ q. absurd (omega (arith, q, h))))

pub none_last : (p : ℕ → Bool) (n : ℕ) → p n ≡ true → none p (n + 1) ≡ false
unfolding none
none_last p n t = ne_eqb (least p (n + 1)) (n + 1) (λ q. absurd (omega (arith, q, least-some p (n + 1) n (omega arith) t)))

pub some-true : (p : ℕ → Bool) (n k : ℕ) → k < n → p k ≡ true → some p n ≡ true
unfolding some
some-true p n k h t = lt-ltb (least p n) n (least-some p n k h t)

pub some-false : (p : ℕ → Bool) (n : ℕ) → least p n ≡ n → some p n ≡ false
unfolding some
some-false p n e = le-ltb (least p n) n (omega arith)

-- the number of a place, and 0 past the last
pub number-here : (n k : ℕ) → k < n → number_in n k ≡ k + 1
unfolding number_in
number-here n k h = rw (lt-ltb k n h)

pub number-none : (n : ℕ) → number_in n n ≡ 0
unfolding number_in
number-none n = rw (le-ltb n n (le_refl n))
