-- The two forms: how many digits a length has, and which form lengths need.
-- Assumes nothing.
use Prim.Native.Nat.{ℕ, ◌+◌, ◌*◌, ◌≤◌, ◌<◌, ◌^◌}
use mathlib.Core.Bool.{Bool, true, false, cond, not}
use mathlib.Core.List.{List}
use mathlib.Core.Path.{◌≡◌, refl, sym, ap}
use mathlib.Core.Logic.{◌⊎◌, ⊎_elim, inl, inr}
use native.Mathlib.Nat.{mul-le-mul, mul-le-mul_right, suc-mul, le_refl, eq-or-lt_of_le}
use native.Mathlib.Omega.{arith}
use borrow.Author.Tests.{leb-false, eq-eqb, ne_eqb, lt-ltb, le-ltb}
use lib.Dec.{eqb, leb, ltb}
use lib.ListN.{length, get_or}
use Rattle.std.specs.List.{list_any}
use Rattle.laws.specs.Least.{least, none, some}
use Rattle.laws.proofs.Bools.{either}
use Rattle.laws.proofs.Leasts.{least-is, least-same, none_each}
use Rattle.laws.proofs.Positions.{some_any}
use Rattle.day.specs.Contents.{form_one, form_two, width_of, long_at, form_for, width_for, length_end}
use Rattle.day.specs.Bodies.{size_at, Short}

-- five digits or six
pub width-cases : (form : ℕ) → (width_of form ≡ 5) ⊎ (width_of form ≡ 6)
unfolding width_of
width-cases form = ⊎_elim (λ t. inr (rw t refl)) (λ f. inl (rw f refl)) (either (eqb form form_two))

-- so many digits say less than the end of lengths
pub width-end : (form : ℕ) → 10 ^ width_of form ≤ length_end
width-end form = ⊎_elim (λ e. rw e (omega arith)) (λ e. rw e (omega arith)) (width-cases form)

-- the same lengths need the same form
pub form-same : (size long : ℕ → ℕ) (n : ℕ) → ((i : ℕ) → i < n → size i ≡ long i) → form_for size n ≡ form_for long n
unfolding form_for none long_at
form-same size long n e = rw (least-same (long_at size) (long_at long) n (λ i h. rw (e i h)))

-- the form that lengths need has digits enough for each
pub width_fits : (size : ℕ → ℕ) (n : ℕ) → Short size n → (i : ℕ) → i < n → size i < 10 ^ width_for size n
unfolding form_for width_of long_at
width_fits size n s i h = ⊎_elim five six (either (none (long_at size) n))
  where
    five : none (long_at size) n ≡ true → size i < 10 ^ width_for size n
    five t = let l : size i < 100000 = leb-false 100000 (size i) (none_each (long_at size) n t i h) in rw t (omega (arith, l))

    six : none (long_at size) n ≡ false → size i < 10 ^ width_for size n
    six f = rw f (omega (arith, s i h))

-- entries follow one another, and 16 of them are few bytes
pub entry_next : (width n i : ℕ) → i < n → i * (8 + width) + (8 + width) ≤ n * (8 + width)
entry_next width n i h = rw (← suc-mul i (8 + width)) (mul-le-mul_right (8 + width) h)

pub entries-small : (width n : ℕ) → width ≤ 6 → n ≤ 100 → n * (8 + width) ≤ 1400
entries-small width n w h = mul-le-mul {m₂ = 14} h (omega (arith, w))

-- no place of a list has what no element has
pub none-any : (p : ℕ → Bool) (xs : List ℕ) → none (λ k. p (get_or xs k 0)) (length xs) ≡ not (list_any p xs)
unfolding none some
none-any p xs = rw (← some_any p xs 0) (⊎_elim absent found (eq-or-lt_of_le (least-is at (length xs)).within))
  where
    at : ℕ → Bool
    at k = p (get_or xs k 0)

    absent : least at (length xs) ≡ length xs → eqb (least at (length xs)) (length xs) ≡ not (ltb (least at (length xs)) (length xs))
    absent e = rw (e, le-ltb (length xs) (length xs) (le_refl (length xs)), eq-eqb (length xs) (length xs) refl)

    found : least at (length xs) < length xs → eqb (least at (length xs)) (length xs) ≡ not (ltb (least at (length xs)) (length xs))
    found h = rw (lt-ltb _ _ h, ne_eqb (least at (length xs)) (length xs) (λ e. absurd (omega (arith, h, e))))

-- the form by whether any length is long
pub form-any : (lengths : List ℕ) → cond (not (list_any (λ x. leb 100000 x) lengths)) form_one form_two ≡ form_for (size_at lengths) (length lengths)
unfolding form_for long_at size_at
form-any lengths = ap (λ b. cond b form_one form_two) (sym (none-any (λ x. leb 100000 x) lengths))
