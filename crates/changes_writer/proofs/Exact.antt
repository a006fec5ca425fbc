-- What answering an EB11 says, and what the room holds after it.
-- Assumes nothing.
use Prim.Native.Nat.{ℕ, ◌+◌, ◌*◌, ◌≤◌, ◌<◌}
use mathlib.Core.Bool.{true, false}
use mathlib.Core.List.{List}
use mathlib.Core.Logic.{◌↔◌, ⊎_elim}
use mathlib.Core.Path.{◌≡◌, refl, sym, ◌∙◌, ap}
use native.Mathlib.Omega.{arith}
use borrow.Author.Tests.{ltb-true, ltb-false}
use lib.Dec.{ltb}
use lib.ListN.{length, get_or}
use Rattle.laws.specs.Part.{part}
use Rattle.laws.proofs.Bools.{either}
use Rattle.numbers.specs.Numbers.{value_of}
use Rattle.kinds.specs.Kinds.{EB11}
use Rattle.tables.specs.Totals.{totals_of}
use Rattle.answers.specs.declared.told.Answer.{Answer}
use Rattle.answers.specs.Answers.{accepted, refuses}
use Rattle.answers.proofs.Refusals.{number_of, refuses-zero, refuses-other}
use Rattle.answers.proofs.Stored.{room-refused, room-8, room-good, stores-none, stores-all}
use Rattle.records.specs.Records.{data_of, trailer_of}
use Rattle.reader.proofs.Accepted.{total-value}
use Rattle.changes.specs.Deciding.{decided}
use Rattle.changes.specs.Says.{Whole}
use Rattle.changes.proofs.Told.{decided-zero}
use Rattle.changes.proofs.Exact.{decided-exact}
use Rattle.changes_writer.specs.Building.{refused_to, total_in, applied_of, file_for}
use Rattle.changes_writer.specs.Writing.{write_told, written, write_of, room_after}
use Rattle.changes_writer.specs.Says.{record_from, Tells, Wrote}
use Rattle.changes_writer.proofs.Built.{no-yes}
use Rattle.changes_writer.proofs.Counts.{adds-up, all_yes}
use Rattle.changes_writer.proofs.Holding.{ready, all-long, holds}

module _ (s answers : List ℕ) where
  -- how long the file is
  abbrev size : ℕ
  size = (refused_to answers (data_of EB11 s) + 2) * 120

  -- *First refusal*: what was decided, then 8
  pub write-tells : (room : ℕ) → Tells s answers room (write_told s answers room)
  unfolding write_told
  write-tells room = ⊎_elim bad good (either (refuses (decided s answers)))
    where
      bad : refuses (decided s answers) ≡ true → Tells s answers room (write_told s answers room)
      bad t =
          let ne = refuses-other (decided s answers) t in
          rw (room-refused (decided s answers) (file_for s answers) room ne) (Tells.before ne)

      good : refuses (decided s answers) ≡ false → Tells s answers room (write_told s answers room)
      good f =
          let z = refuses-zero (decided s answers) f in
          let w = (decided-exact s answers).0 (decided-zero s answers z) in
          let long = all-long s answers w in
          ⊎_elim
          (λ t. let l = ltb-true room size t in rw (room-8 (decided s answers) (file_for s answers) room z (rw long l)) (Tells.short w l))
          (λ g. let l = ltb-false room size g in rw (room-good (decided s answers) (file_for s answers) room z (rw long l)) (Tells.good w l))
          (either (ltb room size))

  -- *Only that*: what is told so is the answer
  pub write-only : (room : ℕ) (a : Answer) → Tells s answers room a → a ≡ write_told s answers room
  unfolding write_told
  write-only room a (Tells.before ne) = sym (room-refused (decided s answers) (file_for s answers) room ne)
  write-only room a (Tells.short w l) = sym (room-8 (decided s answers) (file_for s answers) room (number_of ((decided-exact s answers).1 w)) (rw (all-long s answers w) l))
  write-only room a (Tells.good w l) = sym (room-good (decided s answers) (file_for s answers) room (number_of ((decided-exact s answers).1 w)) (rw (all-long s answers w) l))

  good-is : (room : ℕ) (a : Answer) → Tells s answers room a → a.number ≡ 0 → Whole s answers × (size ≤ room)
  good-is room a (Tells.before ne) e = absurd (ne e)
  good-is room a (Tells.short w l) e = absurd (omega arith)
  good-is room a (Tells.good w l) e = (w, l)

  -- *Accepted*: exactly when the answers can stand and the room holds the file
  pub write-exact : (room : ℕ) → (write_told s answers room ≡ accepted) ↔ (Whole s answers × (size ≤ room))
  write-exact room =
      (λ e. good-is room (write_told s answers room) (write-tells room) (number_of e), λ x. sym (write-only room accepted (Tells.good x.0 x.1)))

  -- *EB12*: the room then holds a file of exactly the refused records, and past it what it held
  pub write-holds : (room : List ℕ) → write_told s answers (length room) ≡ accepted → Wrote s answers room
  unfolding write_of room_after written
  write-holds room e =
      let x = (write-exact (length room)).0 e in
      let all = stores-all (write_told s answers (length room)) (file_for s answers) (number_of e) in
      record { holds = holds s answers x.0; stands = rw all; told = rw (all, e) (ap (λ (l : ℕ). record { answer = accepted; size = l }) (all-long s answers x.0)) }

  -- *Refused*: the room is as it was, and nothing is told to be in it
  pub write-refused : (room : List ℕ) → ((write_told s answers (length room)).number ≡ 0 → ⊥) → (room_after s answers room ≡ room) × ((write_of s answers (length room)).size ≡ 0)
  unfolding write_of room_after written
  write-refused room ne = let none = stores-none (write_told s answers (length room)) (file_for s answers) ne in rw none (refl, refl)

  -- *Adds up*: what EB11's trailer says is what EB12's says and the records with a yes, of all records and of each kind
  pub totals-add :
      Whole s answers → (t : ℕ) → t < length (totals_of EB11) →
      value_of (part (total_in t).1 (total_in t).2 (trailer_of EB11 s)) ≡
      value_of (part (total_in t).1 (total_in t).2 (record_from (file_for s answers) (refused_to answers (data_of EB11 s) + 1))) + applied_of s answers (total_in t).3
  totals-add w t h =
      total-value EB11 s (ready s answers w).meets t h ∙
      (adds-up s answers (total_in t).3 ∙ rw ((holds s answers w).trailer.totals t h))

  -- *No refusal*: where every record has a yes, the file is a header and a trailer
  pub no-refusal : Whole s answers → ((i : ℕ) → i < data_of EB11 s → get_or answers i 0 ≡ 0) → length (file_for s answers) ≡ 240
  no-refusal w f = all-long s answers w ∙ rw (all_yes answers (data_of EB11 s) (λ i h. no-yes answers i (f i h)))
