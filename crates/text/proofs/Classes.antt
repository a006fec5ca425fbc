-- The laws of the character classes: what a class says of each byte, and back.
-- Assumes nothing.
use Prim.Native.Nat.{ℕ, ◌+◌, ◌≤◌, ◌<◌}
use mathlib.Core.Bool.{true}
use mathlib.Core.List.{List}
use mathlib.Core.Path.{◌≡◌, sym, ◌∙◌}
use native.Mathlib.Nat.{le_antisymm}
use native.Mathlib.Omega.{arith}
use borrow.Author.Tests.{leb-true, le-leb, not-false, eqb-true, eq-eqb}
use lib.Dec.{leb}
use lib.ListN.{length, get_or, replicate, length-replicate, get_or-replicate}
use lib.Seq.{ext_get_or}
use Rattle.laws.specs.Part.{part}
use Rattle.laws.proofs.Bools.{and_left, and_right}
use Rattle.laws.proofs.Leasts.{least-before, least-none}
use Rattle.laws.proofs.Parts.{part_length}
use Rattle.text.specs.declared.characters.Set.{Set}
use Rattle.text.specs.declared.characters.Set.TheVariants.{From}
use Rattle.text.specs.Characters.{within, takes, stops_at, front, takes_all, each}

-- within, as two orders
pub within_low : (low high b : ℕ) → within low high b ≡ true → low ≤ b
unfolding within
within_low low high b t = leb-true low b (and_left (leb low b) (leb b high) t)

pub within-high : (low high b : ℕ) → within low high b ≡ true → b ≤ high
unfolding within
within-high low high b t = leb-true b high (and_right (leb low b) (leb b high) t)

pub within-if : (low high b : ℕ) → low ≤ b → b ≤ high → within low high b ≡ true
unfolding within
within-if low high b l h = rw (le-leb low b l, le-leb b high h)

-- a set that takes all takes each, and where it takes each it takes all
module _ (set : Set) (s : List ℕ) where
  pub all-at : takes_all set s ≡ true → (k : ℕ) → k < length s → takes set (get_or s k 0) ≡ true
  unfolding front stops_at
  all-at t k h =
      not-false (takes set (get_or s k 0)) (least-before (stops_at set s) (length s) (eqb-true (front set s) (length s) t) k h)

  pub all-if : ((k : ℕ) → k < length s → takes set (get_or s k 0) ≡ true) → takes_all set s ≡ true
  unfolding front stops_at
  all-if f = eq-eqb (front set s) (length s) (least-none (stops_at set s) (length s) (λ k h. rw (f k h)))

-- every byte of an `each` is within, and where all are it is one
module _ (low high : ℕ) (s : List ℕ) where
  pub each_at : each low high s ≡ true → (k : ℕ) → k < length s → within low high (get_or s k 0) ≡ true
  unfolding each takes
  each_at t k h = all-at (From low high) s t k h

  pub each-if : ((k : ℕ) → k < length s → within low high (get_or s k 0) ≡ true) → each low high s ≡ true
  unfolding each takes
  each-if f = all-if (From low high) s f

-- one byte all along
pub only-is : (b w : ℕ) (x : List ℕ) → length x ≡ w → each b b x ≡ true → x ≡ replicate w b
only-is b w x l t = ext_get_or 0 x (replicate w b) (l ∙ sym (length-replicate w b)) (λ i h. is i h ∙ sym (get_or-replicate w i b 0 (omega (arith, l))))
  where
    is : (i : ℕ) → i < length x → get_or x i 0 ≡ b
    is i h = let w = each_at b b x t i h in le_antisymm (within-high b b _ w) (within_low b b _ w)

pub only_part : (b at w : ℕ) (s : List ℕ) → at + w ≤ length s → each b b (part at w s) ≡ true → part at w s ≡ replicate w b
only_part b at w s h t = only-is b w (part at w s) (part_length at w s h) t
