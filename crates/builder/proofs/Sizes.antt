-- The sizes of records and of a whole file.
-- Assumes nothing.
use Prim.Native.Nat.{ℕ, suc, ◌+◌, ◌*◌, ◌≤◌}
use mathlib.Core.Path.{◌≡◌, refl}
use mathlib.Core.Bool.{◌||◌}
use mathlib.Core.Logic.{⊎_elim}
use native.Mathlib.Nat.{suc-mul, mul-le-mul}
use native.Mathlib.Numerals.{add-one, add-two}
use native.Mathlib.Omega.{arith}
use borrow.Author.Tests.{eqb-true, leb-true}
use lib.Dec.{eqb, leb}
use Rattle.laws.proofs.Bools.{or_cases}
use Rattle.kinds.specs.declared.of_files.Kind.{Kind}
use Rattle.kinds.specs.Kinds.{fixed_for, fixed_of, limit}
use Rattle.kinds.proofs.Forms.{of-form}

-- a record is items 1 to 3 and the body
pub body-size : (k : Kind) → 19 + (fixed_of k).body ≡ (fixed_of k).size
body-size k = eqb-true (19 + (fixed_of k).body) (fixed_of k).size (of-form (λ f. eqb (19 + (fixed_for f).body) (fixed_for f).size) refl k.form)

-- the key lies in the body
pub key-behind : (k : Kind) → 19 ≤ (fixed_of k).key.start
key-behind k = leb-true 19 (fixed_of k).key.start (of-form (λ f. leb 19 (fixed_for f).key.start) refl k.form)

-- a record that is not 120 bytes is 150
pub wide : (k : Kind) → ((fixed_of k).size ≡ 120 → ⊥) → (fixed_of k).size ≡ 150
wide k ne =
    ⊎_elim (λ t. absurd (ne (eqb-true (fixed_of k).size 120 t))) (λ t. eqb-true (fixed_of k).size 150 t)
    (or_cases (eqb (fixed_of k).size 120) (eqb (fixed_of k).size 150) (of-form (λ f. eqb (fixed_for f).size 120 || eqb (fixed_for f).size 150) refl k.form))

-- no record is longer
pub size-most : (k : Kind) → (fixed_of k).size ≤ 150
size-most k = leb-true (fixed_of k).size 150 (of-form (λ f. leb (fixed_for f).size 150) refl k.form)

-- so no file within the limit is longer than the longest
pub frame-fits : (k : Kind) (n : ℕ) → n ≤ limit → (n + 2) * (fixed_of k).size ≤ (limit + 2) * 150
frame-fits k n h = mul-le-mul {n₁ = n + 2} {m₁ = (fixed_of k).size} {n₂ = limit + 2} {m₂ = 150} (omega arith) (size-most k)

-- a record more
pub one_more : (n w : ℕ) → (n + 2) * w ≡ (n + 1) * w + w
one_more n w = rw (add-two, add-one) (suc-mul (suc n) w)
