-- The cases of taking a file apart: what is answered, and what the room holds.
-- Assumes nothing.
use Prim.Native.Nat.{ℕ, ◌*◌, ◌≤◌, ◌<◌}
use mathlib.Core.List.{List, [], ◌++◌}
use mathlib.Core.Path.{◌≡◌, refl, sym, ◌∙◌}
use lib.ListN.{length, drop}
use Rattle.kinds.specs.declared.of_files.Kind.{Kind}
use Rattle.kinds.specs.Kinds.{fixed_of}
use Rattle.answers.specs.declared.told.Answer.{Answer}
use Rattle.answers.specs.Storing.{Stored, storing, at_front}
use Rattle.answers.specs.Answers.{accepted, refused}
use Rattle.answers.proofs.Stored.{room-refused, room-8, room-good, stores-none, stores-all, told-refused}
use Rattle.answers.proofs.Stored as stored
use Rattle.records.specs.Records.{data_of}
use Rattle.reader.specs.Reading.{read_as}
use Rattle.writer.specs.Apart.{bodies_in}
use Rattle.writer.proofs.Taken.{bodies-length}
use Rattle.apart.specs.Taking.{apart_as, stored_as}

module _ (k : Kind) (s : List ℕ) (room : ℕ) where
  -- as reading the file; 8 where the room is too short; else accepted
  pub apart-read : ((read_as k s).number ≡ 0 → ⊥) → apart_as k s room ≡ read_as k s
  unfolding apart_as
  apart-read = room-refused (read_as k s) (bodies_in k s) room

  pub apart-8 : (read_as k s).number ≡ 0 → room < length (bodies_in k s) → apart_as k s room ≡ refused 8
  unfolding apart_as
  apart-8 = room-8 (read_as k s) (bodies_in k s) room

  pub apart-good : (read_as k s).number ≡ 0 → length (bodies_in k s) ≤ room → apart_as k s room ≡ accepted
  unfolding apart_as
  apart-good = room-good (read_as k s) (bodies_in k s) room

  -- a refusal stores nothing; what is accepted is stored whole
  pub stored-none : ((apart_as k s room).number ≡ 0 → ⊥) → stored_as k s room ≡ []
  unfolding stored_as
  stored-none = stores-none (apart_as k s room) (bodies_in k s)

  pub stored-all : (apart_as k s room).number ≡ 0 → stored_as k s room ≡ bodies_in k s
  unfolding stored_as
  stored-all = stores-all (apart_as k s room) (bodies_in k s)

-- each return, from the tests on its way
module _ (k : Kind) (s room : List ℕ) where
  abbrev pub Told : Stored → List ℕ → Type 0
  Told t after =
      (t ≡ storing (apart_as k s (length room)) (stored_as k s (length room))) × (after ≡ at_front (stored_as k s (length room)) room)

  pub told-read : (a : Answer) → a ≡ read_as k s → (a.number ≡ 0 → ⊥) → Told (storing a []) room
  unfolding apart_as stored_as
  told-read = told-refused (read_as k s) (bodies_in k s) room

  -- once the file is accepted
  module _ (read : (read_as k s).number ≡ 0) where
    long : data_of k s * (fixed_of k).body ≡ length (bodies_in k s)
    long = sym (bodies-length k s)

    pub told-8 : length room < data_of k s * (fixed_of k).body → Told (storing (refused 8) []) room
    unfolding apart_as stored_as
    told-8 l = stored.told-8 (read_as k s) (bodies_in k s) room (refused 8) read (rw long at l) refl

    pub told-good :
        (after : List ℕ) → data_of k s * (fixed_of k).body ≤ length room → after ≡ bodies_in k s ++ drop (data_of k s * (fixed_of k).body) room →
        Told (record { answer = accepted; size = data_of k s * (fixed_of k).body }) after
    unfolding apart_as stored_as
    told-good after h f = stored.told-good (read_as k s) (bodies_in k s) room accepted (data_of k s * (fixed_of k).body) after read (rw long at h) refl long (f ∙ rw (← long))
