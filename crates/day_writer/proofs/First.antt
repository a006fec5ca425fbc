-- *First refusal*: what each answer of the writer says.
-- Assumes nothing.
use Prim.Native.Nat.{ℕ}
use mathlib.Core.Bool.{true, false}
use mathlib.Core.List.{List}
use mathlib.Core.Path.{◌≡◌, sym, ◌∙◌}
use mathlib.Core.Logic.{⊎_elim}
use native.Mathlib.Omega.{arith}
use borrow.Author.Tests.{leb-true, leb-false}
use lib.Dec.{leb}
use lib.ListN.{length}
use Rattle.laws.proofs.Bools.{either, clash}
use Rattle.answers.specs.OfDay.{day_refuses}
use Rattle.answers.proofs.OfDay.{day-number, day-zero, day-other}
use Rattle.day.specs.Bodies.{size_at}
use Rattle.day.proofs.Listing.{list-says}
use Rattle.day_writer.specs.Writing.{name_of, given_good, decided, file_for, write_told}
use Rattle.day_writer.specs.First.{Says, given, listed, short, good}
use Rattle.day_writer.proofs.Decides.{good-given, given-good, decided-30, decided-list, decided-given, decided-listed}
use Rattle.day_writer.proofs.Stored.{told-decided, told-8, told-good}

module _ (names lengths bodies : List ℕ) (room : ℕ) where
  abbrev Told : Type 0
  Told = Says names lengths bodies room (write_told names lengths bodies room)

  -- not given well
  says-30 : given_good names lengths ≡ false → Told
  says-30 f =
      let e = decided-30 names lengths bodies f in
      rw (told-decided names lengths bodies room (λ z. absurd (let q : ◌≡◌ {A = ℕ} 30 0 = day-number (sym e) ∙ z in omega arith)) ∙ e) (given (λ g. clash (given-good names lengths g) f))

  -- the bodies refused
  says-list : given_good names lengths ≡ true → ((decided names lengths bodies).number ≡ 0 → ⊥) → Told
  says-list t ne =
      let e = decided-list names lengths bodies t in
      rw (told-decided names lengths bodies room ne ∙ e)
      (listed _ (good-given names lengths t) (list-says (name_of names) (size_at lengths) (length lengths) bodies) (λ z. ne (day-number e ∙ z)))

  -- all but the room is good
  says-room : (decided names lengths bodies).number ≡ 0 → Told
  says-room z =
      let g = decided-given names lengths bodies z in
      let l = decided-listed names lengths bodies z in
      let size = length (file_for names lengths bodies) in
      ⊎_elim
      (λ t. let h = leb-true size room t in rw (told-good names lengths bodies room z h) (good g l h))
      (λ f. let h = leb-false size room f in rw (told-8 names lengths bodies room z h) (short g l h))
      (either (leb size room))

  pub first-refusal : Told
  first-refusal =
      ⊎_elim
      (λ t. ⊎_elim (λ r. says-list t (day-other (decided names lengths bodies) r)) (λ r. says-room (day-zero (decided names lengths bodies) r)) (either (day_refuses (decided names lengths bodies))))
      says-30
      (either (given_good names lengths))
