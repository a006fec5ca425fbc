-- Written, then read: what the writer accepts the reader accepts, and it is taken apart into what was given.
-- Assumes nothing.
use Prim.Native.Nat.{ℕ}
use mathlib.Core.Bool.{true, false}
use mathlib.Core.List.{List}
use mathlib.Core.Path.{◌≡◌, refl, sym, ◌∙◌, ap}
use native.Mathlib.Omega.{arith}
use borrow.Author.Tests.{eq-eqb}
use lib.ListN.{length}
use Rattle.laws.proofs.Bools.{clash}
use Rattle.kinds.specs.declared.of_files.Kind.{Kind}
use Rattle.std.specs.Prelude.{Option, Some, None}
use Rattle.answers.specs.declared.told.Answer.{Answer}
use Rattle.answers.specs.Answers.{accepted}
use Rattle.reader.specs.Reading.{read_as}
use Rattle.reader.proofs.Exact.{read-exact, accepted-meets}
use Rattle.reader.proofs.Accepted.{read_named_lem}
use Rattle.builder.specs.Records.{Head}
use Rattle.builder.specs.Files.{file_of}
use Rattle.writer.specs.Writing.{write_as, after_as, write_named, write_of, after_named, room_after}
use Rattle.kinds.specs.Kinds.{request_of}
use Rattle.writer.specs.Apart.{head_in, bodies_in}
use Rattle.writer.specs.Says.{fitting, writers_own, Tells, Wrote, Agrees}
use Rattle.writer.proofs.Requests.{request-kind}
use Rattle.writer.proofs.Taken.{written_apart}
use Rattle.writer.proofs.Agree.{writer-tells, answers_agree}

-- what is accepted fits, and the file is accepted by the reader
module _ (k : Kind) (h : Head) (bodies : List ℕ) (room : ℕ) where
  told-good : (a : Answer) → Tells k h bodies room a → a.number ≡ 0 → (fitting k h bodies ≡ true) × (read_as k (file_of k h bodies) ≡ accepted)
  told-good a (Tells.unfit f) e = absurd (omega arith)
  told-good a (Tells.many t l) e = absurd (omega arith)
  told-good a (Tells.short t l b) e = absurd (omega arith)
  told-good a (Tells.read t l b o) e = (t, (read-exact k (file_of k h bodies)).1 (accepted-meets k (file_of k h bodies) e))

  pub write-good : (write_as k h bodies room).number ≡ 0 → (fitting k h bodies ≡ true) × (read_as k (file_of k h bodies) ≡ accepted)
  write-good = told-good (write_as k h bodies room) (writer-tells k h bodies room)

wrote-named :
    (kind : ℕ) (h : Head) (bodies room : List ℕ) (n : Option Kind) → request_of kind ≡ n →
    (write_named n h bodies (length room)).number ≡ 0 → room_after kind h bodies room ≡ after_named n h bodies room → Wrote kind h bodies room
unfolding after_as
wrote-named kind h bodies room (Some k) e z s =
    let good = write-good k h bodies (length room) z in
    let parts = written_apart k h bodies good.0 in
    record {
      k = k;
      named = e;
      stands = s ∙ rw (eq-eqb (write_as k h bodies (length room)).number 0 z);
      reads = read_named_lem kind (file_of k h bodies) k (request-kind kind k e) ∙ good.1;
      head-back = parts.0;
      bodies-back = parts.1;
    }
wrote-named kind h bodies room None e z s = absurd (omega arith)

-- *Written, read*: what the writer accepts is read as accepted, and taken apart is what was given
pub written_read : (kind : ℕ) (h : Head) (bodies room : List ℕ) → (write_of kind h bodies (length room)).number ≡ 0 → Wrote kind h bodies room
unfolding write_of room_after
written_read kind h bodies room z = wrote-named kind h bodies room (request_of kind) refl z refl

-- *No two*: no two things that the writer accepts give the same file
pub no-two :
    (k : Kind) (h h' : Head) (bodies bodies' : List ℕ) (room room' : ℕ) →
    (write_as k h bodies room).number ≡ 0 → (write_as k h' bodies' room').number ≡ 0 →
    file_of k h bodies ≡ file_of k h' bodies' → (h ≡ h') × (bodies ≡ bodies')
no-two k h h' bodies bodies' room room' a b e =
    let p = written_apart k h bodies (write-good k h bodies room a).0 in
    let q = written_apart k h' bodies' (write-good k h' bodies' room' b).0 in
    (sym p.0 ∙ (ap (head_in k) e ∙ q.0), sym p.1 ∙ (ap (bodies_in k) e ∙ q.1))

agree-named :
    (kind : ℕ) (h : Head) (bodies : List ℕ) (room : ℕ) (n : Option Kind) → request_of kind ≡ n →
    writers_own (write_named n h bodies room).number ≡ false → Agrees kind h bodies (write_named n h bodies room)
unfolding writers_own
agree-named kind h bodies room (Some k) e o =
    record {
      k = k;
      named = e;
      says = answers_agree k h bodies room o ∙ sym (read_named_lem kind (file_of k h bodies) k (request-kind kind k e));
    }
agree-named kind h bodies room None e o = absurd (clash refl o)

-- *Answers agree*, by the number of the kind: an answer other than 1, 2, 3 and 8 is the reader's under the same number
pub numbers-agree :
    (kind : ℕ) (h : Head) (bodies : List ℕ) (room : ℕ) →
    writers_own (write_of kind h bodies room).number ≡ false → Agrees kind h bodies (write_of kind h bodies room)
unfolding write_of
numbers-agree kind h bodies room o = agree-named kind h bodies room (request_of kind) refl o
