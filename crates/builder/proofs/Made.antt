-- An array that `from_fn` makes by a closure that says what stands at each place.
-- Assumes nothing.
use Prim.Native.Nat.{ℕ, zero, suc, ◌+◌, ◌<◌}
use mathlib.Core.List.{List}
use mathlib.Core.Path.{◌≡◌, refl, sym, ◌∙◌}
use native.Mathlib.Nat.{add-zero, zero-add}
use native.Mathlib.Omega.{arith}
use denote.Param.Members.{Mut, Called}
use lib.ListN.{length, get_or}
use Rattle.std.specs.Array.{IsFromFnResultFrom, IsFromFnResult}
use Rattle.laws.specs.Tabulate.{tabulate}
use Rattle.laws.proofs.Tabs.{tab-list}

module _ {F : Type 0} {g : Mut F (ℕ × Unit {0}) ℕ} {f : F} (at : ℕ → ℕ) (n : ℕ) (says : (i r : ℕ) (q : F) → i < n → Called g f (i, tt) r q → (q ≡ f) × (r ≡ at i)) where
  each : (xs : List ℕ) (q : F) (i m k : ℕ) → q ≡ f → i + m ≡ n → k < m → IsFromFnResultFrom g q xs i m → get_or xs (i + k) 0 ≡ at (i + k)
  each xs q i zero k s e l h = absurd (omega arith)
  each xs q i (suc m) zero s e l h =
      let t = rw s at h.3 in
      rw add-zero (h.2.1 0 ∙ (says i h.1 h.0 (omega arith) t).1)
  each xs q i (suc m) (suc k) s e l h =
      let t = rw s at h.3 in
      let next : (i + 1) + k ≡ i + suc k = omega arith in
      rw (← next) (each xs h.0 (i + 1) m k (says i h.1 h.0 (omega arith) t).0 (omega arith) (omega arith) h.4)

  pub made : (xs : List ℕ) → IsFromFnResult g f xs n → xs ≡ tabulate at n
  made xs h =
      let at-place : (k : ℕ) → k < length xs → at k ≡ get_or xs k 0 = λ k l. sym (rw zero-add at (each xs f 0 n k refl (zero-add n) (omega (arith, h.long)) h.each)) in
      rw (← h.long) (sym (tab-list at xs at-place))
