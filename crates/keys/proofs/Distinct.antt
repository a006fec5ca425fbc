-- None of some keys repeats an earlier one exactly when no two are the same.
-- Assumes nothing.
use Prim.Native.Nat.{ℕ, ◌<◌}
use mathlib.Core.Bool.{true, false}
use mathlib.Core.List.{List}
use mathlib.Core.Path.{◌≡◌, sym}
use mathlib.Core.Logic.{⊎_elim}
use native.Mathlib.Omega.{arith}
use borrow.Author.Tests.{ltb-true, ltb-false}
use lib.Dec.{ltb}
use Rattle.laws.specs.Part.{same}
use Rattle.laws.proofs.Bools.{either, clash}
use Rattle.laws.proofs.Leasts.{least-none, some-true, some-false}
use Rattle.laws.proofs.Parts.{same-equal, same_self}
use Rattle.keys.specs.Keys.{shares_in, repeats_in, Distinct}

module _ (key : ℕ → List ℕ) where
  repeat-if : (i j : ℕ) → j < i → key i ≡ key j → repeats_in key i ≡ true
  unfolding repeats_in shares_in
  repeat-if i j h e = some-true (shares_in key i) i j h (rw e (same_self (key j)))

  pub distinct-if : (n : ℕ) → ((i : ℕ) → i < n → repeats_in key i ≡ false) → Distinct key n
  distinct-if n h i j a b e = ⊎_elim less (λ g. ⊎_elim more (λ f. omega (arith, ltb-false)) (either (ltb j i))) (either (ltb i j))
    where
      less : ltb i j ≡ true → i ≡ j
      less t = absurd (clash (repeat-if j i (ltb-true i j t) (sym e)) (h j b))

      more : ltb j i ≡ true → i ≡ j
      more t = absurd (clash (repeat-if i j (ltb-true j i t) e) (h i a))

  pub repeat-none : (n : ℕ) → Distinct key n → (i : ℕ) → i < n → repeats_in key i ≡ false
  unfolding repeats_in shares_in
  repeat-none n d i h = some-false (shares_in key i) i (least-none (shares_in key i) i other)
    where
      other : (j : ℕ) → j < i → same (key i) (key j) ≡ false
      other j l =
          ⊎_elim (λ t. absurd (let z : j ≡ i = d j i (omega arith) h (sym (same-equal _ _ t)) in omega arith)) (λ f. f)
          (either (same (key i) (key j)))
