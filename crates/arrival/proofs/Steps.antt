-- One call before the end and one after it.
-- Assumes nothing.
use Prim.Native.Nat.{ℕ, ◌+◌, ◌-◌, ◌≤◌, ◌<◌}
use mathlib.Core.Bool.{true, false, and-false}
use mathlib.Core.List.{List}
use mathlib.Core.Path.{◌≡◌, refl, ap}
use native.Mathlib.Omega.{arith}
use borrow.Author.Tests.{eq-eqb, ne_eqb, le-leb, lt-leb}
use lib.ListN.{length}
use Rattle.laws.specs.Stored.{stored}
use Rattle.answers.specs.Answers.{accepted, refused, ◌then◌}
use Rattle.answers.specs.declared.told.Answer.{Answer}
use Rattle.answers.specs.declared.refusing.Refusal.{Refusal}
use Rattle.answers.specs.Refusing.{answer_of}
use Rattle.answers.proofs.Refusals.{then-first}
use Rattle.answers.proofs.Tellings.{bad}
use Rattle.std.specs.Prelude.{Result, Ok, Err}
use Rattle.kinds.specs.Kinds.{kind_of}
use Rattle.arrival.specs.Counting.{counted}
use Rattle.arrival.specs.Arriving.{PartTold, More, Ended, number_of, answered, number_by, state_of, kept_in, past_in, ended, has_ended, part_told, fitting, room_with, state_with}
use Rattle.arrival.specs.Ending.{room_tells, end_named, end_told, state_ended}

-- what follows a room that is too short is not told
pub then-eight : (a b : Answer) → a ≡ refused 8 → (a then b) ≡ refused 8
then-eight a b e = rw e (then-first (refused 8) b (λ z. omega arith))

-- the room is long enough where nothing came past it and it holds what lay in it, and nowhere else
module _ (kept past room : ℕ) where
  pub room-enough : past ≡ 0 → kept ≤ room → room_tells kept past room ≡ accepted
  unfolding room_tells
  room-enough e l = rw (eq-eqb past 0 e, le-leb kept room l)

  pub room-passed : (past ≡ 0 → ⊥) → room_tells kept past room ≡ refused 8
  unfolding room_tells
  room-passed ne = rw (ne_eqb past 0 ne)

  pub room-other : room < kept → room_tells kept past room ≡ refused 8
  unfolding room_tells
  room-other l = rw (lt-leb kept room l, and-false)

module _ (state room : List ℕ) where
  -- after the end nothing changes
  module _ (t : has_ended state ≡ true) where
    pub ended-part : (p : List ℕ) → (Ended ≡ part_told state) × ((state ≡ state_with state (length room) p) × (room ≡ room_with state room p))
    unfolding part_told state_with room_with
    ended-part p = rw t (refl, (refl, refl))

    pub ended-end : (kind : ℕ) → (refused 9 ≡ end_told kind state room) × (state ≡ state_ended state)
    unfolding end_told state_ended
    ended-end kind = rw t (refl, refl)

  -- before it a part is taken
  module _ (f : has_ended state ≡ false) where
    pub open-part :
        (p : List ℕ) →
        (More ≡ part_told state) ×
        ((state_of (kept_in state + length (fitting state (length room) p)) (counted (past_in state + (length p - length (fitting state (length room) p)))) ≡ state_with state (length room) p) ×
        (stored (kept_in state) (fitting state (length room) p) room ≡ room_with state room p))
    unfolding part_told state_with room_with
    open-part p = rw f (refl, (refl, refl))

    pub open-end : (kind : ℕ) → (end_named (kind_of kind) (kept_in state) (past_in state) room ≡ end_told kind state room) × (state_of (kept_in state) ended ≡ state_ended state)
    unfolding end_told state_ended
    open-end kind = rw f (refl, refl)

-- a result that is told as a part's is answered the part's number
pub number-answered : {A : Type 0} (r : Result A Refusal) (p : PartTold) → answer_of r ≡ answered p → number_by r ≡ number_of p
number-answered (Ok a) More e = refl
number-answered (Ok a) Ended e = absurd (let z : ◌≡◌ {A = ℕ} 0 9 = ap (λ (x : Answer). x.number) e in omega arith)
number-answered (Err r) More e = absurd (bad r accepted e refl)
number-answered (Err r) Ended e = ap (λ (a : Answer). a.number) e
