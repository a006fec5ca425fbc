-- A pass that settles members: so many are settled, the others are as they were.
-- Assumes nothing.
use Prim.Native.Nat.{ℕ, ◌+◌, ◌≤◌, ◌<◌}
use mathlib.Core.List.{List, map}
use mathlib.Core.Path.{◌≡◌, sym, ◌∙◌}
use native.Mathlib.Nat.{le_refl}
use native.Mathlib.Omega.{arith}
use borrow.Author.Count.{below_more}
use lib.ListN.{length, get_or, set, length-set, length-map, get_or-map}
use lib.Seq.{get_or-set_same, get_or-set_other, ext_get_or}
use Rattle.laws.proofs.Parts.{inside}

-- the first `at` elements are f of those that were
pub record Turned {A : Type 0} (f : A → A) (d : A) (first : List A) (at : ℕ) (now : List A) : Type 0 where
  pub long : length now ≡ length first
  pub done : (k : ℕ) → k < at → get_or now k d ≡ f (get_or first k d)
  pub left : (k : ℕ) → at ≤ k → get_or now k d ≡ get_or first k d

module _ {A : Type 0} (f : A → A) (d : A) (first : List A) where
  pub turned_more : (at : ℕ) (now : List A) → at < length first → Turned f d first at now → Turned f d first (at + 1) (set now at (f (get_or now at d)))
  turned_more at now h t = record {
    long = length-set now at _ ∙ t.long;
    done = below_more (λ k. get_or (set now at (f (get_or now at d))) k d ≡ f (get_or first k d)) at
        (λ k l. get_or-set_other now at k (f (get_or now at d)) d (λ e. absurd (omega arith)) ∙ t.done k l)
        (get_or-set_same now at (f (get_or now at d)) d (omega (arith, t.long)) ∙ rw (t.left at (le_refl at)));
    left = λ k l. get_or-set_other now at k (f (get_or now at d)) d (λ e. absurd (omega arith)) ∙ t.left k (omega arith);
  }

  pub turned-end : (at : ℕ) (now : List A) → length first ≤ at → Turned f d first at now → now ≡ map f first
  turned-end at now h t =
      ext_get_or d now (map f first) (t.long ∙ sym (length-map first f))
      (λ k l.
      let m : k < length first = omega (arith, t.long) in
      t.done k (omega arith) ∙ (sym (get_or-map f first k d) ∙ inside (map f first) k (f d) d (rw length-map m)))
