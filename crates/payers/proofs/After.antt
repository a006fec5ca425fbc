-- A member, and all members, after a posting.
-- Assumes nothing.
use Prim.Native.Nat.{ℕ, ◌-◌, ◌<◌}
use mathlib.Core.Bool.{true, false}
use mathlib.Core.List.{List, map}
use mathlib.Core.Path.{◌≡◌, ◌∙◌, ap}
use mathlib.Core.Logic.{⊎_elim, ◌↔◌}
use native.Mathlib.Omega.{arith}
use borrow.Author.Tests.{eqb-true, eq-eqb, ne_eqb}
use lib.Dec.{eqb}
use lib.ListN.{length, get_or, length-map, get_or-map}
use Rattle.laws.proofs.Bools.{either, clash}
use Rattle.laws.proofs.Parts.{inside}
use Rattle.keys.proofs.Spaced.{first-same}
use Rattle.payers.specs.declared.members.Member.{Member}
use Rattle.laws.specs.Least.{number_in}
use Rattle.payers.specs.Members.{nobody, payer_on, owed_on, repeat_on, repeat_number}
use Rattle.payers.specs.Payers.{named, taken_from, state_of, settled, member_after, members_after}
use Rattle.payers.proofs.Named.{named-if, taken_none}

-- a state is 1 exactly where nothing is owed, and else 0
pub state-running : (owed : ℕ) → (state_of owed ≡ 1) ↔ (owed ≡ 0)
unfolding state_of
state-running owed =
    (λ e. ⊎_elim (λ t. eqb-true owed 0 t) (λ f. absurd (let z : ◌≡◌ {A = ℕ} 0 1 = rw f at e in omega arith)) (either (eqb owed 0)), λ e. rw (eq-eqb owed 0 e))

pub state-paused : (owed : ℕ) → (state_of owed ≡ 0) ↔ (owed ≡ 0 → ⊥)
unfolding state_of
state-paused owed = (λ e z. absurd (let y : ◌≡◌ {A = ℕ} 1 0 = rw (eq-eqb owed 0 z) at e in omega arith), λ ne. rw (ne_eqb owed 0 ne))

module _ (key : ℕ → List ℕ) (won : ℕ → ℕ) (n : ℕ) where
  pub after-named : (m : Member) → named key n m.payer ≡ true → member_after key won n m ≡ settled m (taken_from key won n m.payer)
  unfolding member_after
  after-named m t = rw t

  pub after-unnamed : (m : Member) → named key n m.payer ≡ false → member_after key won n m ≡ m
  unfolding member_after
  after-unnamed m f = rw f

  -- a member keeps its payer
  pub after-payer : (m : Member) → (member_after key won n m).payer ≡ m.payer
  after-payer m =
      ⊎_elim (λ t. ap (λ (x : Member). x.payer) (after-named m t)) (λ f. ap (λ (x : Member). x.payer) (after-unnamed m f)) (either (named key n m.payer))

  -- and owes less by what was taken of it
  pub after-owed : (m : Member) → (member_after key won n m).owed ≡ m.owed - taken_from key won n m.payer
  after-owed m =
      ⊎_elim (λ t. ap (λ (x : Member). x.owed) (after-named m t))
      (λ f.
      let z = taken_none key won n m.payer (λ i h e. clash (named-if key won n m.payer i h e) f) in
      ap (λ (x : Member). x.owed) (after-unnamed m f) ∙ omega arith)
      (either (named key n m.payer))

  module _ (board : List Member) where
    pub members-length : length (members_after key won n board) ≡ length board
    unfolding members_after
    members-length = length-map board (member_after key won n)

    pub members-at : (k : ℕ) → k < length board → get_or (members_after key won n board) k nobody ≡ member_after key won n (get_or board k nobody)
    unfolding members_after
    members-at k h =
        inside (map (member_after key won n) board) k nobody (member_after key won n nobody) (rw length-map h) ∙ get_or-map (member_after key won n) board k nobody

    pub members-payer : (k : ℕ) → k < length board → payer_on (members_after key won n board) k ≡ payer_on board k
    unfolding payer_on
    members-payer k h = ap (λ (x : Member). x.payer) (members-at k h) ∙ after-payer (get_or board k nobody)

    pub members-owed : (k : ℕ) → k < length board → owed_on (members_after key won n board) k ≡ owed_on board k - taken_from key won n (payer_on board k)
    unfolding owed_on payer_on
    members-owed k h = ap (λ (x : Member). x.owed) (members-at k h) ∙ after-owed (get_or board k nobody)

-- members keep their payers, so none repeats where none did
pub members-repeat : (key : ℕ → List ℕ) (won : ℕ → ℕ) (n : ℕ) (board : List Member) → repeat_number (members_after key won n board) ≡ repeat_number board
unfolding repeat_number repeat_on
members-repeat key won n board =
    rw (members-length key won n board)
    (ap (number_in (length board)) (first-same (payer_on (members_after key won n board)) (payer_on board) (length board) (members-payer key won n board)))
