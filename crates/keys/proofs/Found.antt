-- Which key is the one looked for, and where each of some keys stands among others: what stands at a place of `places_in`.
-- Assumes nothing.
use Prim.Native.Nat.{ℕ, ◌≤◌, ◌<◌}
use mathlib.Core.Bool.{true, false}
use mathlib.Core.List.{List, ◌++◌}
use mathlib.Core.Logic.{⊎_elim}
use mathlib.Core.Path.{◌≡◌, refl, sym, ◌∙◌}
use native.Mathlib.Nat.{le_antisymm, le_trans}
use native.Mathlib.Omega.{arith}
use borrow.Author.Tests.{lt-ltb, le-ltb, ltb-true, ltb-false}
use lib.Dec.{eqb, ltb}
use lib.ListN.{length, get_or, drop, replicate, length-append, length-drop, length-replicate, get_or-replicate}
use lib.Seq.{ext_get_or}
use Rattle.std.specs.Prelude.{Some, None}
use Rattle.std.specs.Option.{unwrap_or}
use Rattle.std.specs.Cmp.Lexicographic.{pointwise}
use Rattle.std.proofs.lemmas.Option.{same_Some, none-some}
use Rattle.std.proofs.lemmas.Bool.Decides.{same_from_decides, Decides-eqb}
use Rattle.std.proofs.lemmas.Slice.Eq.{slice_eq-Decides}
use Rattle.laws.specs.Part.{same}
use Rattle.laws.proofs.Bools.{either}
use Rattle.laws.proofs.Leasts.{least-is}
use Rattle.laws.proofs.Parts.{same-equal, same_self}
use Rattle.laws.specs.Tabulate.{tabulate}
use Rattle.laws.proofs.Tabs.{tab-at, tab-length, fill-at, fill-past}
use Rattle.keys.specs.Keys.{has_key_in, place_in, below, place_for, places_in}

-- what `==` says of two keys
pub compared : (a b : List ℕ) → pointwise eqb a b ≡ same a b
compared a b = same_from_decides _ _ (slice_eq-Decides Decides-eqb a b _ refl) (same-equal a b, λ e. rw e (same_self b))

-- a key is the one that is looked for, or another
pub has_key : (key : ℕ → List ℕ) (one : List ℕ) (i : ℕ) → key i ≡ one → has_key_in key one i ≡ true
unfolding has_key_in
has_key key one i e = rw e (same_self one)

pub has_other : (key : ℕ → List ℕ) (one : List ℕ) (i : ℕ) → (key i ≡ one → ⊥) → has_key_in key one i ≡ false
unfolding has_key_in
has_other key one i ne = ⊎_elim (λ t. absurd (ne (same-equal (key i) one t))) (λ f. f) (either (same (key i) one))

pub key_has : (key : ℕ → List ℕ) (one : List ℕ) (i : ℕ) → has_key_in key one i ≡ true → key i ≡ one
unfolding has_key_in
key_has key one i t = same-equal (key i) one t

-- a place is one of the keys, or none of them
pub place-within : (key : ℕ → List ℕ) (n : ℕ) (one : List ℕ) → place_in key n one ≤ n
unfolding place_in
place-within key n one = (least-is (has_key_in key one) n).within

-- a place that is told as one of n, and one that is told as none of them
pub below-some : (n k i : ℕ) → Some i ≡ below n k → (ltb k n ≡ true) × (k ≡ i)
below-some n k i e =
    ⊎_elim (λ t. (t, sym (same_Some _ _ (rw t at e)))) (λ f. absurd (none-some i (sym (rw f at e)))) (either (ltb k n))

pub below_none : (n k : ℕ) → None ≡ below n k → ltb k n ≡ false
below_none n k e = ⊎_elim (λ t. absurd (none-some k (rw t at e))) (λ f. f) (either (ltb k n))

-- a place of n, or n where it is none of them, is the place
pub or-below : (n k : ℕ) → k ≤ n → unwrap_or (below n k) n ≡ k
or-below n k h = ⊎_elim (λ t. rw t) (λ f. rw f (le_antisymm (ltb-false k n f) h)) (either (ltb k n))

module _ (key : ℕ → List ℕ) (n : ℕ) (other : ℕ → List ℕ) (m : ℕ) where
  pub place_here : (j : ℕ) → j < m → place_for key n other m j ≡ place_in key n (other j)
  unfolding place_for
  place_here j h = rw (lt-ltb j m h)

  pub place-past : (j : ℕ) → m ≤ j → place_for key n other m j ≡ 0
  unfolding place_for
  place-past j h = rw (le-ltb j m h)

  -- the place of each key in a list that has room for it
  pub place-of : (room : ℕ) → m ≤ room → (j : ℕ) → j < m → get_or (places_in key n other m room) j 0 ≡ place_in key n (other j)
  unfolding places_in
  place-of room l j h = tab-at (place_for key n other m) room j (le_trans h l) ∙ place_here j h

  -- a list of zeros, filled from the front as far as there are keys and room
  pub places-filled :
      (room j : ℕ) → j ≤ room → ((i : ℕ) → j ≤ i → i < room → m ≤ i) → tabulate (place_for key n other m) j ++ drop j (replicate room 0) ≡ places_in key n other m room
  unfolding places_in
  places-filled room j h past =
      ext_get_or 0 (tabulate f j ++ drop j (replicate room 0)) (tabulate f room) (long ∙ sym (tab-length f room)) (λ i l. each i (rw long at l))
    where
      f : ℕ → ℕ
      f = place_for key n other m

      long : length (tabulate f j ++ drop j (replicate room 0)) ≡ room
      long = rw (length-append (tabulate f j) (drop j (replicate room 0)), tab-length f j, length-drop {A = ℕ} j (replicate room 0), length-replicate {A = ℕ} room 0) (omega arith)

      each : (i : ℕ) → i < room → get_or (tabulate f j ++ drop j (replicate room 0)) i 0 ≡ get_or (tabulate f room) i 0
      each i l =
          ⊎_elim (λ t. fill-at f (replicate room 0) j i (ltb-true i j t) ∙ sym (tab-at f room i l))
          (λ g. let b : j ≤ i = ltb-false i j g in fill-past f (replicate room 0) j i b ∙ (get_or-replicate room i 0 0 l ∙ sym (tab-at f room i l ∙ place-past i (past i b l))))
          (either (ltb i j))

  pub places-length : (room : ℕ) → length (places_in key n other m room) ≡ room
  unfolding places_in
  places-length room = tab-length _ room
