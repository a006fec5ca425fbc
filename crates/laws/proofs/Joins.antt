-- The laws of `joined`: its length, its parts, and that a list is its parts.
-- Assumes nothing.
use Prim.Native.Nat.{ℕ, zero, suc, ◌+◌, ◌*◌, ◌≤◌, ◌<◌}
use mathlib.Core.List.{List, [], ◌++◌, append_assoc, append-nil}
use mathlib.Core.Path.{◌≡◌, refl, sym, ◌∙◌, ap}
use mathlib.Core.Logic.{⊎_elim}
use native.Mathlib.Nat.{suc-mul, zero-mul, le_refl, eq-or-lt_of_le, le_of_suc-le-suc, not-suc-le-zero, mul-le-mul_right}
use native.Mathlib.Numerals.{add-one}
use native.Mathlib.Omega.{arith}
use lib.ListN.{length, take, drop, length-append, length-drop}
use lib.Seq.{take-append-le, drop-append-le, take_at, drop_at, take_all, take-add}
use Rattle.laws.specs.Joined.{joined}
use Rattle.laws.specs.Part.{part}
use Rattle.laws.specs.Sum.{sum}

-- a loop that joins: one more
pub joined-start : (f : ℕ → List ℕ) → joined f 0 ≡ []
unfolding joined
joined-start f = refl

pub joined-more : (f : ℕ → List ℕ) (i : ℕ) → joined f (i + 1) ≡ joined f i ++ f i
unfolding joined
joined-more f i = rw add-one

-- part i of n parts ends within them
pub size_below : (i n size : ℕ) → i < n → i * size + size ≤ n * size
size_below i n size h = rw (← suc-mul i size) (mul-le-mul_right size h)

-- the first n lists have one size
abbrev pub Sized : (ℕ → List ℕ) → ℕ → ℕ → Type 0
Sized f size n = (i : ℕ) → i < n → length (f i) ≡ size

pub sized-length : (f : ℕ → List ℕ) (size n : ℕ) → Sized f size n → length (joined f n) ≡ n * size
unfolding joined
sized-length f size zero each = sym (zero-mul size)
sized-length f size (suc n) each =
    length-append (joined f n) (f n) ∙ rw (sized-length f size n (λ i l. each i (omega arith)), each n (le_refl (suc n)), suc-mul n size)

-- part i is the list that was put there
pub sized-part : (f : ℕ → List ℕ) (size n : ℕ) → Sized f size n → (i : ℕ) → i < n → part (i * size) size (joined f n) ≡ f i
unfolding joined part
sized-part f size zero each i h = absurd (not-suc-le-zero h)
sized-part f size (suc n) each i h =
    ⊎_elim last (front (sized-part f size n less i)) (eq-or-lt_of_le (le_of_suc-le-suc h))
  where
    less : Sized f size n
    less j l = each j (omega arith)

    last : i ≡ n → take size (drop (i * size) (joined f n ++ f n)) ≡ f i
    last e =
        rw (e, drop_at (joined f n) (f n) (n * size) (sized-length f size n less))
        (take_all size (f n) (rw (each n (le_refl (suc n))) (le_refl size)))

    front : (i < n → take size (drop (i * size) (joined f n)) ≡ f i) → i < n → take size (drop (i * size) (joined f n ++ f n)) ≡ f i
    front ih l =
        let fits = size_below i n size l in
        let long = sized-length f size n less in
        rw (
          drop-append-le (i * size) (joined f n) (f n) (omega arith),
          take-append-le size (drop (i * size) (joined f n)) (f n) (rw length-drop (omega arith)),
        ) (ih l)

-- the same where all lists have it
module _ (f : ℕ → List ℕ) (size : ℕ) (each : (i : ℕ) → length (f i) ≡ size) where
  pub joined_length : (n : ℕ) → length (joined f n) ≡ n * size
  joined_length n = sized-length f size n (λ i _. each i)

  pub joined-part : (n i : ℕ) → i < n → part (i * size) size (joined f n) ≡ f i
  joined-part n i h = sized-part f size n (λ j _. each j) i h

-- the same lists, the same joined
pub joined_same : (f g : ℕ → List ℕ) (n : ℕ) → ((i : ℕ) → i < n → f i ≡ g i) → joined f n ≡ joined g n
unfolding joined
joined_same f g zero h = refl
joined_same f g (suc n) h = rw (joined_same f g n (λ i l. h i (omega arith)), h n (le_refl (suc n)))

-- the first list stands in front of the others
pub joined-first : (f : ℕ → List ℕ) (n : ℕ) → joined f (n + 1) ≡ f 0 ++ joined (λ i. f (i + 1)) n
unfolding joined
joined-first f zero = sym (append-nil (f 0))
joined-first f (suc n) =
    joined-more f (suc n) ∙ (ap (λ (x : List ℕ). x ++ f (suc n)) (ap (joined f) (sym (add-one n)) ∙ joined-first f n) ∙
    (append_assoc (f 0) (joined (λ i. f (i + 1)) n) (f (suc n)) ∙ rw add-one))

-- a list of n parts of one size is those parts
pub parts-joined : (size n : ℕ) (s : List ℕ) → n * size ≤ length s → joined (λ i. part (i * size) size s) n ≡ take (n * size) s
unfolding joined part
parts-joined size zero s h = rw zero-mul
parts-joined size (suc n) s h = rw (suc-mul, take-add, parts-joined size n s (omega (arith, suc-mul n size)))

-- and of parts of any sizes, one behind the other
pub pieces-joined : (size : ℕ → ℕ) (n : ℕ) (s : List ℕ) → joined (λ i. part (sum size i) (size i) s) n ≡ take (sum size n) s
unfolding joined part sum
pieces-joined size zero s = refl
pieces-joined size (suc n) s = rw (pieces-joined size n s, take-add (sum size n) (size n) s)

-- among n lists, list i stands behind those before it
pub joined-split : (f : ℕ → List ℕ) (n i : ℕ) → i < n → (rest : List ℕ) × (joined f n ≡ joined f i ++ (f i ++ rest))
unfolding joined
joined-split f zero i h = absurd (not-suc-le-zero h)
joined-split f (suc n) i h = ⊎_elim last (λ l. more (joined-split f n i l)) (eq-or-lt_of_le (le_of_suc-le-suc h))
  where
    last : i ≡ n → (rest : List ℕ) × (joined f n ++ f n ≡ joined f i ++ (f i ++ rest))
    last e = ([], rw (e, append-nil))

    more : ((rest : List ℕ) × (joined f n ≡ joined f i ++ (f i ++ rest))) → (rest : List ℕ) × (joined f n ++ f n ≡ joined f i ++ (f i ++ rest))
    more p = (p.0 ++ f n, rw p.1 (simp append_assoc))

-- how long lists of any lengths are together
pub joined-long : (f : ℕ → List ℕ) (n : ℕ) → length (joined f n) ≡ sum (λ i. length (f i)) n
unfolding joined sum
joined-long f zero = refl
joined-long f (suc n) = length-append (joined f n) (f n) ∙ rw (joined-long f n)

-- and list i among them
pub joined-piece : (f : ℕ → List ℕ) (n i : ℕ) → i < n → part (sum (λ j. length (f j)) i) (length (f i)) (joined f n) ≡ f i
unfolding part
joined-piece f n i h =
    let p = joined-split f n i h in
    let at = sum (λ j. length (f j)) i in
    let rest : drop at (joined f n) ≡ f i ++ p.0 = ap (drop at) p.1 ∙ drop_at (joined f i) (f i ++ p.0) at (joined-long f i) in
    ap (take (length (f i))) rest ∙ take_at (f i) p.0 (length (f i)) refl
