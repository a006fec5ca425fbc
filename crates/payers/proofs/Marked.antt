-- A pass that marks requests: after so many members each mark is that of the last of them that has the request's payer.
-- Assumes nothing.
use Prim.Native.Nat.{ℕ, zero, suc, ◌+◌, ◌≤◌, ◌<◌}
use mathlib.Core.Bool.{Bool, true, false, cond}
use mathlib.Core.List.{List}
use mathlib.Core.Path.{◌≡◌, refl, sym, ◌∙◌, ap}
use mathlib.Core.Logic.{⊎_elim}
use native.Mathlib.Nat.{le_refl, eq-or-lt_of_le, le_of_suc-le-suc, not-suc-le-zero}
use native.Mathlib.Numerals.{add-one}
use native.Mathlib.Omega.{arith}
use borrow.Author.Tests.{lt-ltb, ltb-true, ltb-false}
use lib.Dec.{ltb}
use lib.ListN.{length, get_or}
use Rattle.laws.specs.Least.{least}
use Rattle.laws.specs.Part.{same}
use Rattle.laws.proofs.Bools.{either, clash}
use Rattle.laws.proofs.Leasts.{least-is}
use Rattle.laws.proofs.Parts.{same-equal, same_self}
use Rattle.laws.proofs.Tabs.{tab-at}
use Rattle.keys.specs.Keys.{has_key_in, place_in, Distinct}
use Rattle.payers.specs.declared.members.Member.{Member}
use Rattle.payers.specs.Members.{payer_on, owed_on}
use Rattle.payers.specs.Payers.{taken_from, over_number, member_of, due_number}
use Rattle.payers.specs.Turns.{mark_with, marks_with}

module _ (board : List Member) (key : ℕ → List ℕ) (won : ℕ → ℕ) (n : ℕ) where
  -- the mark of member k's requests
  unfoldable pub mark_of : ℕ → ℕ
  mark_of k = over_number (taken_from key won n (payer_on board k)) (owed_on board k)

  -- the mark of request i + 1 after so many members, where it was so
  unfoldable pub mark_at : ℕ → ℕ → ℕ → ℕ
  mark_at old zero i = old
  mark_at old (suc k) i = cond (has_key_in key (payer_on board k) i) (mark_of k) (mark_at old k i)

  -- one member more
  pub mark-more :
      (k : ℕ) (old marks : List ℕ) → n ≤ length marks → ((i : ℕ) → i < n → get_or marks i 0 ≡ mark_at (get_or old i 0) k i) →
      (i : ℕ) → i < n → get_or (marks_with key n (payer_on board k) (mark_of k) marks) i 0 ≡ mark_at (get_or old i 0) (k + 1) i
  unfolding marks_with mark_with mark_at
  mark-more k old marks fits each i h =
      tab-at (mark_with key n (payer_on board k) (mark_of k) marks) (length marks) i (omega arith) ∙ rw (lt-ltb i n h, add-one, each i h)

  -- while none of them has the payer the mark is as it was
  mark-none : (old i k : ℕ) → ((j : ℕ) → j < k → payer_on board j ≡ key i → ⊥) → mark_at old k i ≡ old
  unfolding mark_at has_key_in
  mark-none old i zero f = refl
  mark-none old i (suc k) f =
      ⊎_elim (λ t. absurd (f k (le_refl (suc k)) (sym (same-equal (key i) (payer_on board k) t)))) (λ g. rw g (mark-none old i k (λ j h. f j (omega arith))))
      (either (same (key i) (payer_on board k)))

  -- it is that of the only one that has it
  mark-one : (old i m k : ℕ) → payer_on board m ≡ key i → m < k → ((j : ℕ) → j < k → payer_on board j ≡ key i → j ≡ m) → mark_at old k i ≡ mark_of m
  unfolding mark_at has_key_in
  mark-one old i m zero e h f = absurd (not-suc-le-zero h)
  mark-one old i m (suc k) e h f =
      ⊎_elim here (λ g. rw g (mark-one old i m k e (earlier g) (λ j l. f j (omega arith)))) (either (same (key i) (payer_on board k)))
    where
      here : same (key i) (payer_on board k) ≡ true → cond (same (key i) (payer_on board k)) (mark_of k) (mark_at old k i) ≡ mark_of m
      here t = rw t (ap mark_of (f k (le_refl (suc k)) (sym (same-equal (key i) (payer_on board k) t))))

      earlier : same (key i) (payer_on board k) ≡ false → m < k
      earlier g = ⊎_elim (λ q. absurd (clash (rw (← q, e) (same_self (key i))) g)) (λ l. l) (eq-or-lt_of_le (le_of_suc-le-suc h))

  -- so, with all members looked at, it is what is told of the request
  pub mark-end : Distinct (payer_on board) (length board) → (i old : ℕ) → old ≡ 41 → mark_at old (length board) i ≡ due_number key won n board i
  unfolding due_number member_of place_in has_key_in mark_of
  mark-end d i old e = ⊎_elim found missing (either (ltb m (length board)))
    where
      has : ℕ → Bool
      has = has_key_in (payer_on board) (key i)

      m : ℕ
      m = least has (length board)

      found : ltb m (length board) ≡ true → mark_at old (length board) i ≡ cond (ltb m (length board)) (over_number (taken_from key won n (key i)) (owed_on board m)) 41
      found t =
          let l : m < length board = ltb-true m (length board) t in
          let q : payer_on board m ≡ key i = same-equal (payer_on board m) (key i) ((least-is has (length board)).holds l) in
          rw t (mark-one old i m (length board) q l (λ j h s. d j m h l (s ∙ sym q)) ∙ ap (λ (x : List ℕ). over_number (taken_from key won n x) (owed_on board m)) q)

      missing : ltb m (length board) ≡ false → mark_at old (length board) i ≡ cond (ltb m (length board)) (over_number (taken_from key won n (key i)) (owed_on board m)) 41
      missing f =
          let l : length board ≤ m = ltb-false m (length board) f in
          rw f (mark-none old i (length board) (λ j h s. clash (rw s (same_self (key i))) ((least-is has (length board)).before j (omega arith))) ∙ e)
