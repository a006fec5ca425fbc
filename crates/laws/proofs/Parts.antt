-- The laws of `part` and of `same`.
-- Assumes nothing.
use Prim.Native.Nat.{ℕ, zero, suc, ◌+◌, ◌-◌, ◌≤◌, ◌<◌}
use mathlib.Core.Bool.{true, false}
use mathlib.Core.List.{List, [], ◌∷◌}
use mathlib.Core.Path.{◌≡◌, refl, sym, ◌∙◌, ap}
use native.Mathlib.Nat.{le_of_suc-le-suc, not-suc-le-zero}
use native.Mathlib.Omega.{arith}
use borrow.Author.Tests.{eqb-true, eq-eqb, not-false}
use lib.Dec.{eqb}
use lib.ListN.{length, get_or, take, drop, length-drop}
use lib.Seq.{get_or-take, get_or-drop, ext_get_or, length-take-le, take_all, take-add, drop_at, drop-drop}
use Rattle.laws.specs.Least.{least, none}
use Rattle.laws.specs.Part.{part, differ, same}
use Rattle.laws.proofs.Bools.{and_left, and_right}
use Rattle.laws.proofs.Leasts.{least_more, none_each, none-if}

-- inside a list the default is not read
pub inside {ℓ} : {A : Type ℓ} (l : List A) (i : ℕ) (d e : A) → i < length l → get_or l i d ≡ get_or l i e
inside [] i d e h = absurd (not-suc-le-zero h)
inside (x ∷ l) zero d e h = refl
inside (x ∷ l) (suc i) d e h = inside l i d e (le_of_suc-le-suc h)

module _ (start size : ℕ) (s : List ℕ) where
  pub part_length : start + size ≤ length s → length (part start size s) ≡ size
  unfolding part
  part_length h = length-take-le size (drop start s) (rw length-drop (omega arith))

  pub part_at : (i : ℕ) → i < size → get_or (part start size s) i 0 ≡ get_or s (start + i) 0
  unfolding part
  part_at i h = rw (get_or-take, get_or-drop)

-- what is left from a place on, where that is shorter
pub part-short : (start size : ℕ) (s : List ℕ) → length s ≤ size → part start size s ≡ drop start s
unfolding part
part-short start size s h = take_all size (drop start s) (rw length-drop (omega arith))

-- all from a place on
pub rest : (n : ℕ) (s : List ℕ) → take (length s - n) (drop n s) ≡ drop n s
rest n s = take_all (length s - n) (drop n s) (rw length-drop (omega arith))

-- what is the same is equal, and a list is the same as itself
pub same-equal : (a b : List ℕ) → same a b ≡ true → a ≡ b
unfolding same differ
same-equal a b t = ext_get_or 0 a b long (λ i h. place i (none_each (differ a b) (length a) (and_right (eqb (length a) (length b)) (none (differ a b) (length a)) t) i h))
  where
    long : length a ≡ length b
    long = eqb-true (length a) (length b) (and_left (eqb (length a) (length b)) (none (differ a b) (length a)) t)

    place : (i : ℕ) → differ a b i ≡ false → get_or a i 0 ≡ get_or b i 0
    place i e = eqb-true (get_or a i 0) (get_or b i 0) (not-false _ e)

pub same_self : (a : List ℕ) → same a a ≡ true
unfolding same differ
same_self a = rw (eq-eqb (length a) (length a) refl, none-if (differ a a) (length a) (λ k h. place k))
  where
    place : (k : ℕ) → differ a a k ≡ false
    place k = rw (eq-eqb (get_or a k 0) (get_or a k 0) refl)

-- a loop that compares: as long as each other, and no place below i differs so far
pub same_more : (a b : List ℕ) → length a ≡ length b → (i : ℕ) → least (differ a b) i ≡ i → get_or a i 0 ≡ get_or b i 0 → least (differ a b) (i + 1) ≡ i + 1
unfolding differ
same_more a b long i e eq = least_more (differ a b) i e (rw (eq-eqb (get_or a i 0) (get_or b i 0) eq))

-- a part that ends before a cut is a part of what is cut off
pub part-take : (a b m : ℕ) (s : List ℕ) → a + b ≤ m → m ≤ length s → part a b (take m s) ≡ part a b s
part-take a b m s h g = ext_get_or 0 (part a b (take m s)) (part a b s) (here ∙ sym there) same_at
  where
    here : length (part a b (take m s)) ≡ b
    here = part_length a b (take m s) (rw (length-take-le m s g) h)

    there : length (part a b s) ≡ b
    there = part_length a b s (omega arith)

    same_at : (i : ℕ) → i < length (part a b (take m s)) → get_or (part a b (take m s)) i 0 ≡ get_or (part a b s) i 0
    same_at i l =
        let k : i < b = omega (arith, here) in
        rw (part_at a b (take m s) i k, part_at a b s i k) (get_or-take m s (a + i) 0 (omega arith))

-- a part of a part
pub part-part : (a b c d : ℕ) (s : List ℕ) → a + b ≤ d → c + d ≤ length s → part a b (part c d s) ≡ part (c + a) b s
part-part a b c d s h g = ext_get_or 0 (part a b (part c d s)) (part (c + a) b s) (here ∙ sym there) same_at
  where
    here : length (part a b (part c d s)) ≡ b
    here = part_length a b (part c d s) (rw (part_length c d s g) h)

    there : length (part (c + a) b s) ≡ b
    there = part_length (c + a) b s (omega arith)

    same_at : (i : ℕ) → i < length (part a b (part c d s)) → get_or (part a b (part c d s)) i 0 ≡ get_or (part (c + a) b s) i 0
    same_at i l =
        let k : i < b = omega (arith, here) in
        rw (part_at a b (part c d s) i k, part_at c d s (a + i) (omega arith), part_at (c + a) b s i k)
        (ap (λ (x : ℕ). get_or s x 0) (omega arith))

-- two parts that lie side by side make up one
pub part_join : (a b c : ℕ) (x y : List ℕ) → part a b x ≡ part a b y → part (a + b) c x ≡ part (a + b) c y → part a (b + c) x ≡ part a (b + c) y
unfolding part
part_join a b c x y e f = rw (take-add b c (drop a x), take-add b c (drop a y), drop-drop b a x, drop-drop b a y, e, f)

-- a part from some place in it on
pub drop-part : (a c d : ℕ) (s : List ℕ) → a ≤ d → c + d ≤ length s → drop a (part c d s) ≡ part (c + a) (d - a) s
unfolding part
drop-part a c d s h g =
    let e : d ≡ a + (d - a) = omega arith in
    ap (λ (x : ℕ). drop a (take x (drop c s))) e ∙
    rw (
      take-add a (d - a) (drop c s),
      drop_at (take a (drop c s)) (take (d - a) (drop a (drop c s))) a (length-take-le a (drop c s) (rw length-drop (omega arith))),
      drop-drop a c s,
    )

-- lists that share a part share each of its elements, and the other way round
pub part-byte : (start size k : ℕ) (x y : List ℕ) → part start size x ≡ part start size y → start ≤ k → k < start + size → get_or x k 0 ≡ get_or y k 0
part-byte start size k x y e l h =
    let i : start + (k - start) ≡ k = omega arith in
    let p = part_at start size x (k - start) (omega arith) in
    let q = part_at start size y (k - start) (omega arith) in
    sym (rw i at p) ∙ (ap (λ (l : List ℕ). get_or l (k - start) 0) e ∙ rw i at q)

pub bytes-part :
    (start size : ℕ) (x y : List ℕ) → start + size ≤ length x → length x ≡ length y →
    ((k : ℕ) → start ≤ k → k < start + size → get_or x k 0 ≡ get_or y k 0) → part start size x ≡ part start size y
bytes-part start size x y h e f = ext_get_or 0 (part start size x) (part start size y) (long ∙ sym (part_length start size y (omega arith))) at
  where
    long : length (part start size x) ≡ size
    long = part_length start size x h

    at : (i : ℕ) → i < length (part start size x) → get_or (part start size x) i 0 ≡ get_or (part start size y) i 0
    at i l =
        let k : i < size = omega (arith, long) in
        part_at start size x i k ∙ (f (start + i) (omega arith) (omega arith) ∙ sym (part_at start size y i k))
