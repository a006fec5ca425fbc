-- Values taken off one after the other: the laws of `is_list` for a loop, and how many bytes a value has at most.
-- Assumes nothing.
use Prim.Native.Nat.{ℕ, zero, suc, ◌+◌, ◌≤◌, ◌<◌}
use mathlib.Core.Bool.{true, false, ◌||◌}
use mathlib.Core.List.{List, [], ◌∷◌}
use mathlib.Core.Path.{◌≡◌, refl, sym, ◌∙◌}
use mathlib.Core.Logic.{⊎_elim}
use native.Mathlib.Nat.{le_refl, not-suc-le-zero}
use native.Mathlib.Omega.{arith}
use borrow.Author.Tests.{eq-eqb, ne_eqb, eqb-true, eqb-false}
use lib.Dec.{eqb}
use lib.ListN.{length, get_or, drop, length-drop}
use Rattle.laws.proofs.Bools.{either, or_left, or_right}
use Rattle.signed.specs.Shape.{list_bit}
use Rattle.signed.specs.Checking.{contents_in, framed_in, taken_off, is_list, size_within}
use Rattle.signed.proofs.Framing.{framed-good, framed-begins}

module _ (size : List ℕ → ℕ) where
  -- one value off, or none there
  off-more : (n : ℕ) (s : List ℕ) → 0 < length s → 0 < size s → taken_off size (suc n) s ≡ taken_off size n (drop (size s) s)
  unfolding taken_off
  off-more n s h g = rw (ne_eqb (length s) 0 (λ e. absurd (omega arith)), ne_eqb (size s) 0 (λ e. absurd (omega arith)))

  off-stop : (n : ℕ) (s : List ℕ) → 0 < length s → size s ≡ 0 → taken_off size (suc n) s ≡ false
  unfolding taken_off
  off-stop n s h e = rw (ne_eqb (length s) 0 (λ z. absurd (omega arith)), eq-eqb (size s) 0 e)

  off-end : (n : ℕ) (s : List ℕ) → length s ≡ 0 → taken_off size n s ≡ true
  unfolding taken_off
  off-end zero s e = eq-eqb (length s) 0 e
  off-end (suc n) s e = rw (eq-eqb (length s) 0 e)

  -- as many turns as there are bytes are enough
  off-enough : (n m : ℕ) (s : List ℕ) → length s ≤ n → length s ≤ m → taken_off size n s ≡ taken_off size m s
  off-enough zero m s h g = off-end zero s (omega arith) ∙ sym (off-end m s (omega arith))
  off-enough (suc n) zero s h g = off-end (suc n) s (omega arith) ∙ sym (off-end zero s (omega arith))
  off-enough (suc n) (suc m) s h g = by_turn n m s (λ k. off-enough n m (drop (size s) s) (rw length-drop (omega arith)) (rw length-drop (omega arith)))
    where
      by_size :
          (n m : ℕ) (s : List ℕ) → 0 < length s → (0 < size s → taken_off size n (drop (size s) s) ≡ taken_off size m (drop (size s) s)) →
          taken_off size (suc n) s ≡ taken_off size (suc m) s
      by_size n m s l again =
          ⊎_elim
          (λ t. let e = eqb-true (size s) 0 t in off-stop n s l e ∙ sym (off-stop m s l e))
          (λ f. let k : 0 < size s = omega (arith, eqb-false (size s) 0 f) in off-more n s l k ∙ again k ∙ sym (off-more m s l k))
          (either (eqb (size s) 0))

      by_turn :
          (n m : ℕ) (s : List ℕ) → (0 < size s → taken_off size n (drop (size s) s) ≡ taken_off size m (drop (size s) s)) →
          taken_off size (suc n) s ≡ taken_off size (suc m) s
      by_turn n m s again =
          ⊎_elim
          (λ t. let e = eqb-true (length s) 0 t in off-end (suc n) s e ∙ sym (off-end (suc m) s e))
          (λ f. by_size n m s (omega (arith, eqb-false (length s) 0 f)) again)
          (either (eqb (length s) 0))

  pub list-end : (s : List ℕ) → length s ≡ 0 → is_list size s ≡ true
  unfolding is_list
  list-end s e = off-end (length s) s e

  pub list-stop : (s : List ℕ) → 0 < length s → size s ≡ 0 → is_list size s ≡ false
  unfolding is_list
  list-stop [] h e = absurd (not-suc-le-zero h)
  list-stop (x ∷ s) h e = off-stop (length s) (x ∷ s) h e

  pub list-more : (s : List ℕ) → 0 < length s → 0 < size s → is_list size s ≡ is_list size (drop (size s) s)
  unfolding is_list
  list-more [] h g = absurd (not-suc-le-zero h)
  list-more (x ∷ s) h g =
      off-more (length s) (x ∷ s) h g ∙
      off-enough (length s) (length (drop (size (x ∷ s)) (x ∷ s))) (drop (size (x ∷ s)) (x ∷ s)) (rw length-drop (omega arith)) (le_refl _)

-- a value lies within the bytes that are there
pub framed-within : (s : List ℕ) → framed_in s ≤ length s
framed-within s =
    ⊎_elim (λ t. let e = eqb-true (framed_in s) 0 t in omega (arith, e))
    (λ f. let b = framed-begins s (omega (arith, eqb-false (framed_in s) 0 f)) in omega (arith, framed-good s b, b.fits))
    (either (eqb (framed_in s) 0))

-- the size of a value, by its tag and what it holds
pub size_none : (s : List ℕ) → size_within 0 s ≡ 0
unfolding size_within
size_none s = refl

module _ (left : ℕ) (s : List ℕ) where
  pub size-plain : list_bit (get_or s 0 0) ≡ 0 → size_within (suc left) s ≡ framed_in s
  unfolding size_within
  size-plain e = rw (or_left (eqb (list_bit (get_or s 0 0)) 0) (is_list (size_within left) (contents_in s)) (eq-eqb (list_bit (get_or s 0 0)) 0 e))

  pub size-holding : is_list (size_within left) (contents_in s) ≡ true → size_within (suc left) s ≡ framed_in s
  unfolding size_within
  size-holding t = rw (or_right (eqb (list_bit (get_or s 0 0)) 0) (is_list (size_within left) (contents_in s)) t)

  pub size-broken : (list_bit (get_or s 0 0) ≡ 0 → ⊥) → is_list (size_within left) (contents_in s) ≡ false → size_within (suc left) s ≡ 0
  unfolding size_within
  size-broken set f = rw (ne_eqb (list_bit (get_or s 0 0)) 0 set, f)

  pub size-unframed : framed_in s ≡ 0 → size_within (suc left) s ≡ 0
  unfolding size_within
  size-unframed e = ⊎_elim (λ t. rw t e) (λ f. rw f) (either (eqb (list_bit (get_or s 0 0)) 0 || is_list (size_within left) (contents_in s)))

pub size-within : (left : ℕ) (s : List ℕ) → size_within left s ≤ length s
size-within zero s = rw (size_none s) (omega arith)
size-within (suc left) s =
    ⊎_elim (λ t. rw (size-plain left s (eqb-true _ 0 t)) (framed-within s))
    (λ f. ⊎_elim (λ t. rw (size-holding left s t) (framed-within s)) (λ g. rw (size-broken left s (eqb-false _ 0 f) g) (omega arith)) (either (is_list (size_within left) (contents_in s))))
    (either (eqb (list_bit (get_or s 0 0)) 0))

-- one value further lies within them too
pub step-within : (left at : ℕ) (s : List ℕ) → at ≤ length s → at + size_within left (drop at s) ≤ length s
step-within left at s h = omega (arith, rw length-drop at (size-within left (drop at s)))
