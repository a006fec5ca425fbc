-- What is told and stored, case by case.
-- Assumes nothing.
use Prim.Native.Nat.{ℕ, ◌+◌, ◌≤◌, ◌<◌}
use mathlib.Core.List.{List}
use mathlib.Core.Path.{◌≡◌, refl, ◌∙◌}
use native.Mathlib.Nat.{zero-add}
use borrow.Author.Tests.{le-leb, lt-leb}
use lib.ListN.{length}
use Rattle.laws.specs.Stored.{stored}
use Rattle.answers.specs.declared.of_day.DayAnswer.{DayAnswer}
use Rattle.answers.specs.OfDay.{DayTold, day_accepted, short_room}
use Rattle.answers.specs.Storing.{at_front}
use Rattle.answers.proofs.OfDay.{day-is, day-not}
use Rattle.day.specs.Contents.{width_for, entry_at}
use Rattle.day.specs.Bodies.{size_at}
use Rattle.day.proofs.Filed.{file-long}
use Rattle.day_writer.specs.Writing.{name_of, decided, file_for, write_told, write_of, write_after}
use Rattle.day_writer.specs.Given.{Given}
use Rattle.day_writer.proofs.Decides.{name-long}

module _ (names lengths bodies : List ℕ) where
  -- how long the file is
  pub for-long : Given names lengths → length (file_for names lengths bodies) ≡ entry_at (width_for (size_at lengths) (length lengths)) (length lengths) + length bodies
  unfolding file_for
  for-long g = file-long (name_of names) (size_at lengths) (length lengths) (name-long names lengths g) bodies

  -- what is told: what was decided, then 8
  module _ (room : ℕ) where
    pub told-decided : ((decided names lengths bodies).number ≡ 0 → ⊥) → write_told names lengths bodies room ≡ decided names lengths bodies
    unfolding write_told
    told-decided ne = rw (day-is (decided names lengths bodies) ne)

    pub told-8 : (decided names lengths bodies).number ≡ 0 → room < length (file_for names lengths bodies) → write_told names lengths bodies room ≡ short_room
    unfolding write_told
    told-8 z l = rw (day-not (decided names lengths bodies) z, lt-leb (length (file_for names lengths bodies)) room l)

    pub told-good : (decided names lengths bodies).number ≡ 0 → length (file_for names lengths bodies) ≤ room → write_told names lengths bodies room ≡ day_accepted
    unfolding write_told
    told-good z l = rw (day-not (decided names lengths bodies) z, le-leb (length (file_for names lengths bodies)) room l)

  -- the room afterwards
  pub after-good : (room : List ℕ) → (write_told names lengths bodies (length room)).number ≡ 0 → write_after names lengths bodies room ≡ at_front (file_for names lengths bodies) room
  unfolding write_after
  after-good room z = rw (day-not (write_told names lengths bodies (length room)) z)

  -- and what is stored by it: nothing, or the file
  module _ (room : List ℕ) (answer : DayAnswer) (told : write_told names lengths bodies (length room) ≡ answer) where
    pub write-refused :
        (answer.number ≡ 0 → ⊥) →
        (◌≡◌ {A = DayTold} (record { answer = answer; count = 0 }) (write_of names lengths bodies (length room))) × (room ≡ write_after names lengths bodies room)
    unfolding write_of write_after
    write-refused ne = rw (told, day-is answer ne) (refl, refl)

    pub write-good :
        (size : ℕ) (last : List ℕ) → answer.number ≡ 0 → size ≡ length (file_for names lengths bodies) → last ≡ stored 0 (file_for names lengths bodies) room →
        (◌≡◌ {A = DayTold} (record { answer = answer; count = size }) (write_of names lengths bodies (length room))) × (last ≡ write_after names lengths bodies room)
    unfolding write_of write_after
    write-good size last z e l = rw (told, day-not answer z) (rw e, l ∙ rw zero-add)
