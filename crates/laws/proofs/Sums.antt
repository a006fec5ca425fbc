-- The laws of `sum`.
-- Assumes nothing.
use Prim.Native.Nat.{ℕ, zero, suc, ◌+◌, ◌*◌, ◌≤◌, ◌<◌, zero-le}
use mathlib.Core.Bool.{true, false, cond}
use mathlib.Core.Logic.{⊎_elim}
use mathlib.Core.Path.{◌≡◌, refl, sym, ◌∙◌, ap}
use native.Mathlib.Nat.{suc-mul, zero-add, le_refl, le_trans, le-add_right, eq-or-lt_of_le, le_of_suc-le-suc, not-suc-le-zero}
use native.Mathlib.Numerals.{add-one}
use native.Mathlib.Omega.{arith}
use borrow.Author.Tests.{lt-ltb, le-ltb, ltb-true, ltb-false, eq-eqb, ne_eqb, eqb-true, eqb-false}
use lib.Dec.{ltb, eqb}
use Rattle.laws.specs.Sum.{sum}
use Rattle.laws.proofs.Bools.{either}

-- a loop that sums: `sum f i` so far
pub sum-start : (f : ℕ → ℕ) → sum f 0 ≡ 0
unfolding sum
sum-start f = refl

pub sum_more : (f : ℕ → ℕ) (i : ℕ) → sum f (i + 1) ≡ sum f i + f i
unfolding sum
sum_more f i = rw add-one

-- n numbers of at most b sum to at most n * b
pub sum_bound : (f : ℕ → ℕ) (b n : ℕ) → ((k : ℕ) → k < n → f k ≤ b) → sum f n ≤ n * b
unfolding sum
sum_bound f b zero h = omega arith
sum_bound f b (suc n) h = rw suc-mul (omega (arith, sum_bound f b n (λ k l. h k (omega arith)), h n (omega arith)))

-- the same numbers, the same sum
pub sum_same : (f g : ℕ → ℕ) (n : ℕ) → ((k : ℕ) → k < n → f k ≡ g k) → sum f n ≡ sum g n
unfolding sum
sum_same f g zero h = refl
sum_same f g (suc n) h = omega (arith, sum_same f g n (λ k l. h k (omega arith)), h n (omega arith))

-- two sums at once
pub sum-add : (f g h : ℕ → ℕ) (n : ℕ) → ((k : ℕ) → k < n → h k ≡ f k + g k) → sum h n ≡ sum f n + sum g n
unfolding sum
sum-add f g h zero e = refl
sum-add f g h (suc n) e = omega (arith, sum-add f g h n (λ k l. e k (omega arith)), e n (omega arith))

-- nothing but at one place
pub sum-zero : (f : ℕ → ℕ) (n : ℕ) → ((k : ℕ) → k < n → f k ≡ 0) → sum f n ≡ 0
unfolding sum
sum-zero f zero h = refl
sum-zero f (suc n) h = omega (arith, sum-zero f n (λ k l. h k (omega arith)), h n (omega arith))

pub sum_one : (f : ℕ → ℕ) (n a : ℕ) → a < n → ((k : ℕ) → k < n → (k ≡ a → ⊥) → f k ≡ 0) → sum f n ≡ f a
unfolding sum
sum_one f zero a h z = absurd (not-suc-le-zero h)
sum_one f (suc n) a h z = ⊎_elim last (front (λ l. sum_one f n a l (λ k b. z k (omega arith)))) (eq-or-lt_of_le (le_of_suc-le-suc h))
  where
    last : a ≡ n → sum f n + f n ≡ f a
    last e = rw (e, sum-zero f n (λ k l. z k (omega arith) (λ q. absurd (omega arith)))) (zero-add (f n))

    front : (a < n → sum f n ≡ f a) → a < n → sum f n + f n ≡ f a
    front ih l = omega (arith, ih l, z n (omega arith) (λ q. absurd (omega arith)))

-- f takes m places to n others and g takes them back: what is summed along g over the n is the sum over the m
module _ (u f g : ℕ → ℕ) (n m : ℕ)
    (inside : (j : ℕ) → j < m → f j < n)
    (back : (j : ℕ) → j < m → g (f j) ≡ j)
    (forth : (i : ℕ) → i < n → g i < m → f (g i) ≡ i)
  where
    -- what place i adds where only the places below l count
    unfoldable below : ℕ → ℕ → ℕ
    below l i = cond (ltb (g i) l) (u (g i)) 0

    unfoldable here : ℕ → ℕ → ℕ
    here l i = cond (eqb (g i) l) (u l) 0

    more : (l i : ℕ) → below (suc l) i ≡ below l i + here l i
    unfolding below here
    more l i = ⊎_elim less (λ h. ⊎_elim same past (either (eqb (g i) l))) (either (ltb (g i) l))
      where
        less : ltb (g i) l ≡ true → cond (ltb (g i) (suc l)) (u (g i)) 0 ≡ cond (ltb (g i) l) (u (g i)) 0 + cond (eqb (g i) l) (u l) 0
        less t =
            let lt : g i < l = ltb-true (g i) l t in
            rw (t, lt-ltb (g i) (suc l) (omega arith), ne_eqb (g i) l (λ e. absurd (omega arith))) (omega arith)

        same : eqb (g i) l ≡ true → cond (ltb (g i) (suc l)) (u (g i)) 0 ≡ cond (ltb (g i) l) (u (g i)) 0 + cond (eqb (g i) l) (u l) 0
        same t = rw (t, eqb-true (g i) l t, lt-ltb l (suc l) (omega arith), le-ltb l l (omega arith)) (omega arith)

        beyond : eqb (g i) l ≡ false → ltb (g i) l ≡ false → suc l ≤ g i
        beyond t h =
            let ne = eqb-false (g i) l t in
            let le : l ≤ g i = ltb-false (g i) l h in
            ⊎_elim (λ e. absurd (ne (sym e))) (λ lt. lt) (eq-or-lt_of_le le)

        past : eqb (g i) l ≡ false → cond (ltb (g i) (suc l)) (u (g i)) 0 ≡ cond (ltb (g i) l) (u (g i)) 0 + cond (eqb (g i) l) (u l) 0
        past t = ⊎_elim less (λ h. rw (t, le-ltb (g i) (suc l) (beyond t h), le-ltb (g i) l (ltb-false (g i) l h))) (either (ltb (g i) l))

    only_here : (l : ℕ) → l < m → sum (here l) n ≡ u l
    unfolding here
    only_here l h = sum_one (here l) n (f l) (inside l h) off ∙ rw (back l h, eq-eqb l l refl)
      where
        off : (k : ℕ) → k < n → (k ≡ f l → ⊥) → cond (eqb (g k) l) (u l) 0 ≡ 0
        off k b ne = rw (ne_eqb (g k) l (λ e. ne (sym (forth k b (rw e h)) ∙ ap f e)))

    along : (l : ℕ) → l ≤ m → sum (below l) n ≡ sum u l
    unfolding sum below
    along zero h = sum-zero (below zero) n (λ k b. rw (le-ltb (g k) 0 zero-le))
    along (suc l) h = sum-add (below l) (here l) (below (suc l)) n (λ k b. more l k) ∙ rw (along l (omega arith), only_here l h)

    pub sum-along : sum (λ i. cond (ltb (g i) m) (u (g i)) 0) n ≡ sum u m
    unfolding below
    sum-along = along m (le_refl m)

-- a number and those before it are no more than all
pub sum-up : (f : ℕ → ℕ) (n i : ℕ) → i < n → sum f i + f i ≤ sum f n
unfolding sum
sum-up f zero i h = absurd (not-suc-le-zero h)
sum-up f (suc n) i h =
    ⊎_elim (λ e. rw e (le_refl (sum f n + f n))) (λ l. le_trans (sum-up f n i l) (le-add_right (sum f n) (f n))) (eq-or-lt_of_le (le_of_suc-le-suc h))

-- rows first or columns first
pub sum-swap : (f : ℕ → ℕ → ℕ) (n m : ℕ) → sum (λ i. sum (f i) m) n ≡ sum (λ j. sum (λ i. f i j) n) m
unfolding sum
sum-swap f zero m = sym (sum-zero (λ j. sum (λ i. f i j) zero) m (λ j h. refl))
sum-swap f (suc n) m =
    sym (sum-add (λ j. sum (λ i. f i j) n) (f n) (λ j. sum (λ i. f i j) (suc n)) m (λ j h. refl) ∙ ap (λ (x : ℕ). x + sum (f n) m) (sym (sum-swap f n m)))
