-- The held payers lie within the room that is lent, and how many they are.
-- Assumes nothing.
use Prim.Native.Nat.{ℕ, ◌+◌, ◌-◌, ◌*◌, ◌≤◌, ◌<◌}
use mathlib.Core.Bool.{Bool, true, false, cond, not}
use mathlib.Core.List.{List, []}
use mathlib.Core.Logic.{⊎_elim}
use mathlib.Core.Path.{◌≡◌}
use native.Mathlib.Nat.{le_refl}
use native.Mathlib.Omega.{arith}
use borrow.Author.Tests.{leb-false, le-leb, lt-leb, ltb-true}
use lib.Dec.{leb, ltb}
use lib.ListN.{length}
use Rattle.laws.proofs.Bools.{either, and_right}
use Rattle.keys.specs.Stands.{Inside}
use Rattle.keys.proofs.Spaced.{spaced-start}
use Rattle.payers.specs.declared.turns.Place.{Place}
use Rattle.payers.specs.Turns.{held, held_spacing, held_in, placed, goes_on}

module _ (p : Place) where
  pub held_all : held ≤ p.at - p.from → held_in p ≡ held
  unfolding held_in
  held_all h = rw (le-leb held (p.at - p.from) h)

  pub held-some : p.at - p.from < held → held_in p ≡ p.at - p.from
  unfolding held_in
  held-some h = rw (lt-leb held (p.at - p.from) h)

  pub held-within : held_in p ≤ held
  unfolding held_in
  held-within = ⊎_elim (λ t. rw t (le_refl held)) (λ f. rw f (omega (arith, leb-false held (p.at - p.from) f))) (either (leb held (p.at - p.from)))

  pub held-room : p.at - p.from < held → held_in p < held
  held-room h = rw (held-some h) h

  pub held-inside : (room : List ℕ) → 20 * held ≤ length room → Inside [] held_spacing room (held_in p)
  held-inside room h i l = rw (spaced-start held_spacing i) (omega (arith, held-within))

  -- the next ones to be held are within the board
  pub goes-within : goes_on p ≡ true → p.from + held ≤ p.end
  unfolding goes_on
  goes-within t = let l : held < p.end - p.from = ltb-true held (p.end - p.from) (and_right (not (ltb p.at p.end)) _ t) in omega arith

-- a place stays one, whether the payer was seen or not
abbrev pub moved_by : Bool → Place → Place
moved_by b p = cond b (placed p.from p.at p.at) (placed p.from (p.at + 1) p.end)

pub moved-within : (b : Bool) (p : Place) → p.from ≤ p.at → p.at < p.end → (moved_by b p).from ≤ (moved_by b p).end
moved-within true p begun below = begun
moved-within false p begun below = omega arith
