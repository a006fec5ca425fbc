-- The dates: which of two is later.
-- Assumes nothing.
use Rattle.std.specs.Prelude.{ℕ, suc, zero, ◌<◌, false, List, [], ◌∷◌, ltb, length, get_or}
use Rattle.std.specs.Ordering.{is_lt, nat_cmp}
use Rattle.std.specs.Cmp.Lexicographic.{slice_cmp}
use mathlib.Core.Path.{◌≡◌, refl, sym, ◌∙◌, ap}
use mathlib.Core.Logic.{⊎_elim}
use Rattle.std.proofs.Common.{suc-le-suc}
use native.Mathlib.Nat.{le_refl, le_of_suc-le-suc, not-suc-le-zero, eq-or-lt_of_le}
use native.Mathlib.Omega.{arith}
use borrow.Author.Tests.{eq-eqb, ne_eqb, eqb-true, eqb-false, le-ltb, not-false, not-true}
use lib.Seq.{ext_get_or}
use Rattle.laws.specs.Least.{least}
use Rattle.laws.specs.Part.{differ}
use Rattle.laws.proofs.Bools.{either}
use Rattle.laws.proofs.Leasts.{least-is, least-before}
use Rattle.dues.specs.Posting.{first_other, later}

-- no list is less than itself
less-self : (xs : List ℕ) → is_lt (slice_cmp nat_cmp xs xs) ≡ false
less-self [] = refl
less-self (x ∷ xs) = rw (le-ltb x x (le_refl x), eq-eqb x x refl) (less-self xs)

-- the first place in which two differ decides which is less
less-there : (xs ys : List ℕ) (k : ℕ) → ((j : ℕ) → j < k → get_or xs j 0 ≡ get_or ys j 0) → k < length xs → k < length ys → (get_or xs k 0 ≡ get_or ys k 0 → ⊥) → is_lt (slice_cmp nat_cmp xs ys) ≡ ltb (get_or xs k 0) (get_or ys k 0)
less-there [] ys k e h l ne = absurd (not-suc-le-zero h)
less-there (x ∷ xs) [] k e h l ne = absurd (not-suc-le-zero l)
less-there (x ∷ xs) (y ∷ ys) zero e h l ne = ⊎_elim (λ t. rw t) (λ f. rw f (rw (ne_eqb x y ne))) (either (ltb x y))
less-there (x ∷ xs) (y ∷ ys) (suc k) e h l ne =
    let q : x ≡ y = e 0 (omega arith) in
    rw (q, le-ltb y y (le_refl y), eq-eqb y y refl) (less-there xs ys k (λ j m. e (suc j) (suc-le-suc m)) (le_of_suc-le-suc h) (le_of_suc-le-suc l) ne)

-- so six bytes are later than six others where these are less
pub later-less : (a b : List ℕ) → length a ≡ 6 → length b ≡ 6 → is_lt (slice_cmp nat_cmp b a) ≡ later a b
unfolding later first_other differ
later-less a b x y = ⊎_elim same other (eq-or-lt_of_le (least-is (differ a b) 6).within)
  where
    k : ℕ
    k = least (differ a b) 6

    same : k ≡ 6 → is_lt (slice_cmp nat_cmp b a) ≡ ltb (get_or b k 0) (get_or a k 0)
    same e =
        let equal : b ≡ a = ext_get_or 0 b a (y ∙ sym x) (λ i h. sym (eqb-true (get_or a i 0) (get_or b i 0) (not-false _ (least-before (differ a b) 6 e i (omega arith))))) in
        ap (λ (z : List ℕ). is_lt (slice_cmp nat_cmp z a)) equal ∙
        (less-self a ∙ sym (ap (λ (z : List ℕ). ltb (get_or z k 0) (get_or a k 0)) equal ∙ le-ltb _ _ (le_refl (get_or a k 0))))

    other : k < 6 → is_lt (slice_cmp nat_cmp b a) ≡ ltb (get_or b k 0) (get_or a k 0)
    other h =
        less-there b a k (λ j l. sym (eqb-true (get_or a j 0) (get_or b j 0) (not-false _ ((least-is (differ a b) 6).before j l))))
        (omega arith) (omega arith)
        (λ q. eqb-false (get_or a k 0) (get_or b k 0) (not-true _ ((least-is (differ a b) 6).holds h)) (sym q))
