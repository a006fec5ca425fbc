-- Each request of an accepted posting has one member, who owes all that was taken of its requests.
-- Assumes nothing.
use Prim.Native.Nat.{ℕ, ◌≤◌, ◌<◌, zero-le}
use mathlib.Core.Bool.{true, false}
use mathlib.Core.List.{List}
use mathlib.Core.Path.{◌≡◌, sym, ◌∙◌, ap}
use mathlib.Core.Logic.{⊎_elim, ◌⊎◌, inl, inr}
use native.Mathlib.Omega.{arith}
use borrow.Author.Tests.{ltb-true, ltb-false, lt-ltb, le-ltb}
use lib.Dec.{ltb}
use lib.ListN.{length}
use Rattle.laws.proofs.Bools.{either, clash}
use Rattle.laws.proofs.Leasts.{least-is, least-some}
use Rattle.keys.specs.Keys.{has_key_in, place_in, Distinct}
use Rattle.keys.proofs.Found.{has_key, key_has}
use Rattle.payers.specs.declared.members.Member.{Member}
use Rattle.payers.specs.Members.{payer_on, owed_on}
use Rattle.payers.specs.Payers.{named, taken_from, over_number, member_of, due_number}
use Rattle.payers.proofs.Named.{named-if, named-is, taken_none, over-good}
use Rattle.board.specs.First.{HasPayer, Nobody}

-- the member of a payer
module _ (board : List Member) (payer : List ℕ) where
  pub found_here : member_of board payer < length board → HasPayer board payer (member_of board payer)
  unfolding member_of place_in
  found_here h = record { on = h; is = key_has (payer_on board) payer (member_of board payer) ((least-is (has_key_in (payer_on board) payer) (length board)).holds h) }

  pub found-nobody : length board ≤ member_of board payer → Nobody board payer
  unfolding member_of place_in
  found-nobody h k x =
      clash (has_key (payer_on board) payer k x.is) ((least-is (has_key_in (payer_on board) payer) (length board)).before k (omega (arith, x.on)))

  pub found : ((k : ℕ) × HasPayer board payer k) ⊎ Nobody board payer
  found =
      ⊎_elim (λ t. inl (member_of board payer, found_here (ltb-true _ _ t))) (λ f. inr (found-nobody (ltb-false _ _ f)))
      (either (ltb (member_of board payer) (length board)))

  pub nobody-found : Nobody board payer → length board ≤ member_of board payer
  nobody-found none = ⊎_elim (λ t. absurd (none _ (found_here (ltb-true _ _ t)))) (λ f. ltb-false _ _ f) (either (ltb (member_of board payer) (length board)))

  -- on a board whose payers differ the member is the only one that has it
  pub only-member : Distinct (payer_on board) (length board) → (k : ℕ) → HasPayer board payer k → member_of board payer ≡ k
  unfolding member_of place_in
  only-member differ k x =
      let h = least-some (has_key_in (payer_on board) payer) (length board) k x.on (has_key (payer_on board) payer k x.is) in
      differ (member_of board payer) k h x.on ((found_here h).is ∙ sym x.is)

module _ (key : ℕ → List ℕ) (won : ℕ → ℕ) (n : ℕ) (board : List Member) where
  -- what is told of a request, by its member
  pub due-nobody : (i : ℕ) → Nobody board (key i) → due_number key won n board i ≡ 41
  unfolding due_number
  due-nobody i none = rw (le-ltb _ _ (nobody-found board (key i) none))

  module _ (differ : Distinct (payer_on board) (length board)) where
    pub due-member : (i k : ℕ) → HasPayer board (key i) k → due_number key won n board i ≡ over_number (taken_from key won n (key i)) (owed_on board k)
    unfolding due_number
    due-member i k x = rw (only-member board (key i) differ k x, lt-ltb k (length board) x.on)

    module _ (dues : (i : ℕ) → i < n → due_number key won n board i ≡ 0) where
      -- each request has a member
      pub due-found : (i : ℕ) → i < n → (k : ℕ) × HasPayer board (key i) k
      due-found i h = ⊎_elim (λ x. x) (λ none. absurd (let z : ◌≡◌ {A = ℕ} 41 0 = sym (due-nobody i none) ∙ dues i h in omega arith)) (found board (key i))

      -- *The sum taken from a payer never exceeds what it owes*
      pub taken-most : (k : ℕ) → k < length board → taken_from key won n (payer_on board k) ≤ owed_on board k
      taken-most k h = ⊎_elim some-do none (either (named key n (payer_on board k)))
        where
          some-do : named key n (payer_on board k) ≡ true → taken_from key won n (payer_on board k) ≤ owed_on board k
          some-do t =
              let x = named-is key won n (payer_on board k) t in
              let e = x.1.1 in
              omega (
                arith,
                ap (taken_from key won n) e,
                over-good (taken_from key won n (key x.0)) (owed_on board k)
                    (sym (due-member x.0 k (record { on = h; is = sym e })) ∙ dues x.0 x.1.0),
              )

          none : named key n (payer_on board k) ≡ false → taken_from key won n (payer_on board k) ≤ owed_on board k
          none f = rw (taken_none key won n (payer_on board k) (λ i l e. clash (named-if key won n (payer_on board k) i l e) f)) zero-le
