-- What a search along a chain tells: whether a key is an earlier one, and the first key that is the one looked for, which is met last.
-- Assumes nothing.
use Prim.Native.Nat.{ℕ, suc, ◌+◌, ◌≤◌, ◌<◌}
use mathlib.Core.Bool.{Bool, true, false}
use mathlib.Core.List.{List}
use mathlib.Core.Path.{◌≡◌, sym, ◌∙◌, ap}
use mathlib.Core.Logic.{⊎_elim}
use native.Mathlib.Nat.{le_refl, eq-or-lt_of_le, le_of_suc-le-suc}
use native.Mathlib.Numerals.{add-one}
use native.Mathlib.Omega.{arith}
use borrow.Author.Tests.{eqb-true, lt-ltb, le-ltb, ltb-true, ltb-false}
use lib.Dec.{ltb}
use lib.ListN.{get_or}
use Rattle.laws.specs.Part.{same}
use Rattle.laws.proofs.Bools.{either, clash}
use Rattle.laws.proofs.Leasts.{least-is, least-only}
use Rattle.laws.proofs.Parts.{same-equal}
use Rattle.keys.specs.Keys.{shares_in, repeats_in, has_key_in, place_in}
use Rattle.keys.specs.Chains.{slots, last, slot_of, in_slot, Chained, Link}
use Rattle.keys.proofs.Chained.{last-above, last_some, last-same, slot-within, slot_has}

-- the same, either way round
same-turned : (a b : List ℕ) → same a b ≡ same b a
same-turned a b = ⊎_elim here there (either (same a b))
  where
    here : same a b ≡ true → same a b ≡ same b a
    here t = rw (same-equal a b t)

    there : same a b ≡ false → same a b ≡ same b a
    there f = ⊎_elim (λ t. rw (same-equal b a t)) (λ g. f ∙ sym g) (either (same b a))

-- a key is an earlier one where the last of the earlier keys that is this one is some key
module _ (key : ℕ → List ℕ) (i : ℕ) where
  repeats-last : repeats_in key i ≡ ltb 0 (last (has_key_in key (key i)) i)
  unfolding repeats_in shares_in has_key_in
  repeats-last = last_some (shares_in key i) i ∙ ap (ltb 0) (last-same (shares_in key i) (has_key_in key (key i)) i (λ j _. same-turned (key i) (key j)))

  pub repeats-found : (at : ℕ) → 0 < at → last (has_key_in key (key i)) i ≡ at → repeats_in key i ≡ true
  repeats-found at h e = repeats-last ∙ rw e (lt-ltb 0 at h)

  pub repeats-none : last (has_key_in key (key i)) i ≡ 0 → repeats_in key i ≡ false
  repeats-none e = repeats-last ∙ rw e (le-ltb 0 0 (le_refl 0))

-- the first that was met so far, when the places from `at` on were passed; n where none was
pub record Seen (p : ℕ → Bool) (n at found : ℕ) : Type 0 where
  pub within : found ≤ n
  pub holds : found < n → p found ≡ true
  pub before : (k : ℕ) → at ≤ k → k < found → p k ≡ false

module _ (key : ℕ → List ℕ) (n : ℕ) (links : List ℕ) (c : Chained key n links) (one : List ℕ) where
  -- a key of another slot is another key
  other-slot : (k : ℕ) → in_slot key (slot_of one) k ≡ false → has_key_in key one k ≡ false
  other-slot k f = ⊎_elim (λ t. absurd (clash (slot_has key one k t) f)) (λ z. z) (either (has_key_in key one k))

  -- a loop down the whole chain of the key's slot
  pub seen_start : Seen (has_key_in key one) n (get_or links (slot_of one) 0) n
  seen_start = record {
    within = le_refl n;
    holds = λ l. absurd (omega arith);
    before = λ k g l. other-slot k (last-above (in_slot key (slot_of one)) n k (rw (c.lasts (slot_of one) (slot-within one)) at g) l);
  }

  module _ (i : ℕ) (link : Link key n (slot_of one) (suc i)) where
    -- none between a key of the chain and the one before it
    between : (k : ℕ) → get_or links (slots + i) 0 ≤ k → k < i → has_key_in key one k ≡ false
    unfolding in_slot
    between k g l =
        let s = eqb-true (slot_of (key i)) (slot_of one) (link.goes i (sym (add-one i))) in
        other-slot k (last-above (in_slot key (slot_of one)) i k (rw (c.befores i link.within, s) at g) l)

    pub seen_here : has_key_in key one i ≡ true → Seen (has_key_in key one) n (get_or links (slots + i) 0) i
    seen_here t = record { within = omega (arith, link.within); holds = λ _. t; before = between }

    pub seen-past :
        (found : ℕ) → has_key_in key one i ≡ false → Seen (has_key_in key one) n (suc i) found →
        Seen (has_key_in key one) n (get_or links (slots + i) 0) found
    seen-past found f s = record {
      within = s.within;
      holds = s.holds;
      before = λ k g l. ⊎_elim (λ b. past k g (ltb-true k (suc i) b)) (λ b. s.before k (ltb-false k (suc i) b) l) (either (ltb k (suc i)));
    }
      where
        past : (k : ℕ) → get_or links (slots + i) 0 ≤ k → k < suc i → has_key_in key one k ≡ false
        past k g b = ⊎_elim (λ e. rw e f) (between k g) (eq-or-lt_of_le (le_of_suc-le-suc b))

  pub seen_end : (at found : ℕ) → at ≤ 0 → Seen (has_key_in key one) n at found → found ≡ place_in key n one
  unfolding place_in
  seen_end at found h s =
      least-only (has_key_in key one) n _ _ (record { within = s.within; holds = s.holds; before = λ k l. s.before k (omega arith) l })
      (least-is (has_key_in key one) n)
