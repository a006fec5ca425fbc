-- What comes of the members, and what is told of a request, goes by the n payers and the n numbers of won only.
-- Assumes nothing.
use Prim.Native.Nat.{ℕ, ◌<◌}
use mathlib.Core.List.{List, [], ◌∷◌}
use mathlib.Core.Path.{◌≡◌, refl, ap}
use lib.Dec.{ltb}
use Rattle.laws.specs.Least.{some}
use Rattle.laws.proofs.Leasts.{least-same}
use Rattle.laws.proofs.Sums.{sum_same}
use Rattle.keys.specs.Keys.{has_key_in}
use Rattle.payers.specs.declared.members.Member.{Member}
use Rattle.payers.specs.Payers.{named, won_from, taken_from, member_after, members_after, due_number}

module _ (key other : ℕ → List ℕ) (n : ℕ) (keys : (i : ℕ) → i < n → key i ≡ other i) where
  pub named-same : (payer : List ℕ) → named key n payer ≡ named other n payer
  unfolding named some has_key_in
  named-same payer = ap (λ (m : ℕ). ltb m n) (least-same (has_key_in key payer) (has_key_in other payer) n (λ i h. rw (keys i h)))

  module _ (won had : ℕ → ℕ) (wons : (i : ℕ) → i < n → won i ≡ had i) where
    pub taken-same : (payer : List ℕ) → taken_from key won n payer ≡ taken_from other had n payer
    unfolding taken_from won_from has_key_in
    taken-same payer = sum_same (won_from key won payer) (won_from other had payer) n (λ i h. rw (keys i h, wons i h))

    pub member-same : (m : Member) → member_after key won n m ≡ member_after other had n m
    unfolding member_after
    member-same m = rw (named-same m.payer, taken-same m.payer)

    pub members-same : (board : List Member) → members_after key won n board ≡ members_after other had n board
    unfolding members_after
    members-same [] = refl
    members-same (m ∷ board) = rw (member-same m, members-same board)

    pub due-same : (board : List Member) (i : ℕ) → i < n → due_number key won n board i ≡ due_number other had n board i
    unfolding due_number
    due-same board i h = rw (keys i h, taken-same (other i))
