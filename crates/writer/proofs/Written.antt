-- The cases of writing: what is answered, and what the room holds.
-- Assumes nothing.
use Prim.Native.Nat.{ℕ, ◌+◌, ◌*◌, ◌≤◌, ◌<◌}
use mathlib.Core.Bool.{true, false}
use mathlib.Core.List.{List, ◌++◌}
use mathlib.Core.Path.{◌≡◌, sym, ◌∙◌}
use borrow.Author.Tests.{le-leb, lt-leb, eq-eqb, ne_eqb}
use lib.ListN.{length, drop}
use Rattle.kinds.specs.declared.of_files.Kind.{Kind}
use Rattle.kinds.specs.Kinds.{fixed_of, limit}
use Rattle.answers.specs.declared.refusing.Refusal.{Refusal}
use Rattle.answers.specs.Answers.{accepted, refused}
use Rattle.answers.specs.Refusing.{told_by}
use Rattle.answers.proofs.Tellings.{bad, good}
use Rattle.reader.specs.Reading.{read_as}
use Rattle.builder.specs.Records.{Head, body_count}
use Rattle.builder.specs.Files.{file_of}
use Rattle.writer.specs.Writing.{parts_fit, write_as, after_as}
use Rattle.builder.proofs.Built.{file-length}

module _ (k : Kind) (h : Head) (bodies room : List ℕ) where
  -- a refusal leaves the room as it was; what is accepted stands at its front
  pub after-bad : ((write_as k h bodies (length room)).number ≡ 0 → ⊥) → after_as k h bodies room ≡ room
  unfolding after_as
  after-bad ne = rw (ne_eqb (write_as k h bodies (length room)).number 0 ne)

  pub after-good :
      (write_as k h bodies (length room)).number ≡ 0 → after_as k h bodies room ≡ file_of k h bodies ++ drop ((body_count k bodies + 2) * (fixed_of k).size) room
  unfolding after_as
  after-good e = rw (eq-eqb (write_as k h bodies (length room)).number 0 e, file-length k h bodies)

  pub write-2 : parts_fit h bodies (fixed_of k).item6 (fixed_of k).item7 (fixed_of k).body ≡ false → write_as k h bodies (length room) ≡ refused 2
  unfolding write_as
  write-2 f = rw f

  pub write-3 : parts_fit h bodies (fixed_of k).item6 (fixed_of k).item7 (fixed_of k).body ≡ true → limit < body_count k bodies → write_as k h bodies (length room) ≡ refused 3
  unfolding write_as
  write-3 t l = rw (t, lt-leb (body_count k bodies) limit l)

  pub write-8 :
      parts_fit h bodies (fixed_of k).item6 (fixed_of k).item7 (fixed_of k).body ≡ true → body_count k bodies ≤ limit →
      length room < (body_count k bodies + 2) * (fixed_of k).size → write_as k h bodies (length room) ≡ refused 8
  unfolding write_as
  write-8 t l r = rw (t, le-leb (body_count k bodies) limit l, lt-leb ((body_count k bodies + 2) * (fixed_of k).size) (length room) r)

  pub write_read :
      parts_fit h bodies (fixed_of k).item6 (fixed_of k).item7 (fixed_of k).body ≡ true → body_count k bodies ≤ limit →
      (body_count k bodies + 2) * (fixed_of k).size ≤ length room → write_as k h bodies (length room) ≡ read_as k (file_of k h bodies)
  unfolding write_as
  write_read t l r = rw (t, le-leb (body_count k bodies) limit l, le-leb ((body_count k bodies + 2) * (fixed_of k).size) (length room) r)

  -- so of what is told
  pub room-kept : (r : Refusal) → told_by r ≡ write_as k h bodies (length room) → room ≡ after_as k h bodies room
  room-kept r e = sym (after-bad (bad r _ e))

  pub room-filled :
      (after : List ℕ) → accepted ≡ write_as k h bodies (length room) →
      after ≡ file_of k h bodies ++ drop ((body_count k bodies + 2) * (fixed_of k).size) room → after ≡ after_as k h bodies room
  room-filled after e s = s ∙ sym (after-good (good _ e))
