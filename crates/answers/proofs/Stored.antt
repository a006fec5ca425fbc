-- Bytes stored at the front of lent room once a decision accepts them and the room holds them: what is told, and what the room holds.
-- Assumes nothing.
use Prim.Native.Nat.{ℕ, ◌≤◌, ◌<◌}
use mathlib.Core.List.{List, []}
use mathlib.Core.Path.{◌≡◌, refl, sym, ◌∙◌}
use native.Mathlib.Omega.{arith}
use borrow.Author.Tests.{le-leb, lt-leb}
use lib.ListN.{length}
use Rattle.answers.specs.declared.told.Answer.{Answer}
use Rattle.answers.specs.Answers.{accepted, refused, ◌then◌}
use Rattle.answers.specs.Storing.{Stored, room_tells, unless_refused, storing, at_front}
use Rattle.answers.proofs.Refusals.{number_of, refuses-is, refuses-not, then-first, then-second}

-- a decision, then 8
module _ (a : Answer) (bytes : List ℕ) (room : ℕ) where
  pub room-refused : (a.number ≡ 0 → ⊥) → (a then room_tells bytes room) ≡ a
  room-refused ne = then-first a (room_tells bytes room) ne

  pub room-8 : a.number ≡ 0 → room < length bytes → (a then room_tells bytes room) ≡ refused 8
  unfolding room_tells
  room-8 z l = then-second a (room_tells bytes room) z ∙ rw (lt-leb (length bytes) room l)

  pub room-good : a.number ≡ 0 → length bytes ≤ room → (a then room_tells bytes room) ≡ accepted
  unfolding room_tells
  room-good z h = then-second a (room_tells bytes room) z ∙ rw (le-leb (length bytes) room h)

-- a refusal stores nothing; what is accepted is stored whole
module _ (a : Answer) (bytes : List ℕ) where
  pub stores-none : (a.number ≡ 0 → ⊥) → unless_refused a bytes ≡ []
  unfolding unless_refused
  stores-none ne = rw (refuses-is a ne)

  pub stores-all : a.number ≡ 0 → unless_refused a bytes ≡ bytes
  unfolding unless_refused
  stores-all z = rw (refuses-not a z)

-- each return, from the tests on its way
module _ (a : Answer) (bytes room : List ℕ) where
  abbrev told : Answer
  told = a then room_tells bytes (length room)

  abbrev pub Told : Stored → List ℕ → Type 0
  Told t after = (t ≡ storing told (unless_refused told bytes)) × (after ≡ at_front (unless_refused told bytes) room)

  told-bad : (b : Answer) → told ≡ b → (b.number ≡ 0 → ⊥) → Told (storing b []) room
  told-bad b e ne = rw (e, stores-none b bytes ne) (refl, refl)

  -- the decision refuses
  pub told-refused : (b : Answer) → b ≡ a → (b.number ≡ 0 → ⊥) → Told (storing b []) room
  told-refused b e ne = told-bad b (room-refused a bytes (length room) (λ z. ne (number_of e ∙ z)) ∙ sym e) ne

  -- the room is too short
  pub told-8 : (b : Answer) → a.number ≡ 0 → length room < length bytes → b ≡ refused 8 → Told (storing b []) room
  told-8 b z l r = told-bad b (room-8 a bytes (length room) z l ∙ sym r) (λ o. absurd (eight (number_of (sym r) ∙ o)))
    where
      eight : ◌≡◌ {A = ℕ} 8 0 → ⊥
      eight o = omega arith

  -- all is stored
  pub told-good : (b : Answer) (size : ℕ) (after : List ℕ) → a.number ≡ 0 → length bytes ≤ length room → b ≡ accepted → size ≡ length bytes → after ≡ at_front bytes room → Told (record { answer = b; size = size }) after
  told-good b size after z h e s f =
      let g = room-good a bytes (length room) z h in
      rw (g, stores-all accepted bytes refl, e, s) (refl, f)
