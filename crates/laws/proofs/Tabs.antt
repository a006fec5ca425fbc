-- The laws of `tabulate`: a loop that fills from the front, and what stands at a place.
-- Assumes nothing.
use Prim.Native.Nat.{ℕ, zero, suc, ◌+◌, ◌-◌, ◌≤◌, ◌<◌}
use mathlib.Core.List.{List, [], ◌∷◌, ◌++◌, append_assoc}
use mathlib.Core.Path.{◌≡◌, refl, sym, ◌∙◌, ap}
use mathlib.Core.Logic.{⊎_elim}
use native.Mathlib.Nat.{le_of_eq, eq-or-lt_of_le, le_of_suc-le-suc, not-suc-le-zero}
use native.Mathlib.Numerals.{add-one}
use native.Mathlib.Omega.{arith}
use lib.ListN.{length, get_or, take, drop, set, length-append, get_or-append}
use lib.Seq.{take-suc-set, take_all, ext_get_or, get_or_at, get_or-append-add, get_or-drop, drop-cons, set_at}
use Rattle.laws.specs.Tabulate.{tabulate}

module _ (f : ℕ → ℕ) where
  pub tab-start : (rec : List ℕ) → take 0 rec ≡ tabulate f 0
  unfolding tabulate
  tab-start rec = refl

  pub tab-more : (rec : List ℕ) (j v : ℕ) → j < length rec → take j rec ≡ tabulate f j → v ≡ f j → take (j + 1) (set rec j v) ≡ tabulate f (j + 1)
  unfolding tabulate
  tab-more rec j v h e q = rw (add-one, take-suc-set rec j v h, e, q)

  pub tab-end : (rec : List ℕ) (n : ℕ) → length rec ≡ n → take n rec ≡ tabulate f n → rec ≡ tabulate f n
  tab-end rec n l e = sym (take_all n rec (le_of_eq l)) ∙ e

  pub tab-length : (n : ℕ) → length (tabulate f n) ≡ n
  unfolding tabulate
  tab-length zero = refl
  tab-length (suc n) = length-append (tabulate f n) (f n ∷ []) ∙ rw (tab-length n) (add-one n)

  pub tab-at : (n j : ℕ) → j < n → get_or (tabulate f n) j 0 ≡ f j
  unfolding tabulate
  tab-at zero j h = absurd (not-suc-le-zero h)
  tab-at (suc n) j h = ⊎_elim last (front (tab-at n j)) (eq-or-lt_of_le (le_of_suc-le-suc h))
    where
      last : j ≡ n → get_or (tabulate f n ++ (f n ∷ [])) j 0 ≡ f j
      last e = rw e (get_or_at (tabulate f n) (f n) [] 0 n (tab-length n))

      front : (j < n → get_or (tabulate f n) j 0 ≡ f j) → j < n → get_or (tabulate f n ++ (f n ∷ [])) j 0 ≡ f j
      front ih l = get_or-append (tabulate f n) (f n ∷ []) 0 j (rw tab-length l) ∙ ih l

-- the same at each place, the same list
pub tab-within : (f g : ℕ → ℕ) (n : ℕ) → ((j : ℕ) → j < n → f j ≡ g j) → tabulate f n ≡ tabulate g n
unfolding tabulate
tab-within f g zero e = refl
tab-within f g (suc n) e = rw (tab-within f g n (λ j l. e j (omega arith)), e n (omega arith))

pub tab-same : (f g : ℕ → ℕ) (n : ℕ) → ((j : ℕ) → f j ≡ g j) → tabulate f n ≡ tabulate g n
tab-same f g n h = tab-within f g n (λ j l. h j)

-- a list is what stands at each of its places
pub tab-list : (f : ℕ → ℕ) (l : List ℕ) → ((i : ℕ) → i < length l → f i ≡ get_or l i 0) → tabulate f (length l) ≡ l
tab-list f l h = ext_get_or 0 (tabulate f (length l)) l (tab-length f (length l)) (λ i b. let c = rw (tab-length f (length l)) at b in tab-at f (length l) i c ∙ h i c)

-- a loop that fills a lent list from the front: what was filled, and what stood past it
module _ (f : ℕ → ℕ) (old : List ℕ) where
  pub fill_start : old ≡ tabulate f 0 ++ drop 0 old
  unfolding tabulate
  fill_start = refl

  pub fill_more : (i v : ℕ) → i < length old → v ≡ f i → set (tabulate f i ++ drop i old) i v ≡ tabulate f (i + 1) ++ drop (i + 1) old
  unfolding tabulate
  fill_more i v h e =
      rw (drop-cons old i 0 h, set_at (tabulate f i) (get_or old i 0) (drop (suc i) old) v i (tab-length f i), e, add-one)
      (sym (append_assoc (tabulate f i) (f i ∷ []) (drop (suc i) old)))

  pub fill-at : (n i : ℕ) → i < n → get_or (tabulate f n ++ drop n old) i 0 ≡ f i
  fill-at n i l = get_or-append (tabulate f n) (drop n old) 0 i (rw (tab-length f n) l) ∙ tab-at f n i l

  pub fill-past : (n i : ℕ) → n ≤ i → get_or (tabulate f n ++ drop n old) i 0 ≡ get_or old i 0
  fill-past n i l =
      let e : length (tabulate f n) + (i - n) ≡ i = rw (tab-length f n) (omega arith) in
      let d : n + (i - n) ≡ i = omega arith in
      ap (λ (k : ℕ). get_or (tabulate f n ++ drop n old) k 0) (sym e) ∙
      (get_or-append-add (tabulate f n) (drop n old) (i - n) 0 ∙ (get_or-drop n old (i - n) 0 ∙ ap (λ (k : ℕ). get_or old k 0) d))
