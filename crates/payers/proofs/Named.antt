-- Payers that requests name, what was taken of them, and whether that is too much.
-- Assumes nothing.
use Prim.Native.Nat.{ℕ, ◌≤◌, ◌<◌}
use mathlib.Core.Bool.{true, false}
use mathlib.Core.List.{List}
use mathlib.Core.Path.{◌≡◌}
use mathlib.Core.Logic.{⊎_elim}
use native.Mathlib.Omega.{arith}
use borrow.Author.Tests.{ltb-true, leb-true, le-leb, lt-leb}
use lib.Dec.{leb}
use Rattle.laws.specs.Least.{least, some}
use Rattle.laws.proofs.Bools.{either}
use Rattle.laws.proofs.Leasts.{least-is, least-none, some-true, some-false}
use Rattle.laws.proofs.Sums.{sum-zero}
use Rattle.keys.specs.Keys.{has_key_in}
use Rattle.keys.proofs.Found.{has_key, has_other, key_has}
use Rattle.payers.specs.Payers.{named, won_from, taken_from, over_number}

module _ (key : ℕ → List ℕ) (won : ℕ → ℕ) (n : ℕ) where
  -- a payer is named by some request, or by none
  pub named-if : (payer : List ℕ) (i : ℕ) → i < n → key i ≡ payer → named key n payer ≡ true
  unfolding named
  named-if payer i h e = some-true (has_key_in key payer) n i h (has_key key payer i e)

  pub named-is : (payer : List ℕ) → named key n payer ≡ true → (i : ℕ) × ((i < n) × (key i ≡ payer))
  unfolding named some
  named-is payer t =
      let i = least (has_key_in key payer) n in
      let h : i < n = ltb-true i n t in
      (i, (h, key_has key payer i ((least-is (has_key_in key payer) n).holds h)))

  pub named-not : (payer : List ℕ) → ((i : ℕ) → i < n → key i ≡ payer → ⊥) → named key n payer ≡ false
  unfolding named
  named-not payer ne = some-false (has_key_in key payer) n (least-none (has_key_in key payer) n (λ i h. has_other key payer i (ne i h)))

  -- of a payer that none names nothing was taken
  pub taken_none : (payer : List ℕ) → ((i : ℕ) → i < n → key i ≡ payer → ⊥) → taken_from key won n payer ≡ 0
  unfolding taken_from won_from
  taken_none payer ne = sum-zero (won_from key won payer) n (λ i h. rw (has_other key payer i (ne i h)))

-- more was taken than is owed, or no more
pub over-not : (won owed : ℕ) → won ≤ owed → over_number won owed ≡ 0
unfolding over_number
over-not won owed h = rw (le-leb won owed h)

pub over-is : (won owed : ℕ) → owed < won → over_number won owed ≡ 42
unfolding over_number
over-is won owed h = rw (lt-leb won owed h)

pub over-good : (won owed : ℕ) → over_number won owed ≡ 0 → won ≤ owed
unfolding over_number
over-good won owed e = ⊎_elim (λ t. leb-true won owed t) (λ f. absurd (let z : ◌≡◌ {A = ℕ} 42 0 = rw f at e in omega arith)) (either (leb won owed))
