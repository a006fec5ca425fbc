-- Taken apart, then written: the same bytes; and written, then taken apart: what was given.
-- Assumes nothing.
use Prim.Native.Nat.{ℕ, ◌≤◌}
use mathlib.Core.List.{List}
use mathlib.Core.Path.{◌≡◌, refl, ◌∙◌, ap}
use lib.ListN.{length, drop}
use lib.Seq.{take_at}
use Rattle.kinds.specs.declared.of_files.Kind.{Kind}
use Rattle.answers.specs.Answers.{accepted}
use Rattle.answers.specs.Storing.{storing}
use Rattle.answers.proofs.Refusals.{number_of}
use Rattle.builder.specs.Records.{Head}
use Rattle.builder.specs.Files.{file_of}
use Rattle.writer.specs.Writing.{write_of}
use Rattle.writer.specs.Apart.{head_in, bodies_in}
use Rattle.writer.specs.Says.{Bytes, Wrote}
use Rattle.writer.proofs.Rewritten.{read-written}
use Rattle.writer.proofs.Trips.{written_read}
use Rattle.apart.specs.Taking.{apart_of}
use Rattle.apart.specs.Says.{Takes, head_taken, bodies_taken, Rewritten, Retaken}
use Rattle.apart.proofs.Exact.{apart-takes, takes-apart, apart-stored}

-- the parts that are handed out are all that a header is written from
pub head-taken : (k : Kind) (s : List ℕ) → head_taken k s ≡ head_in k s
unfolding head_in
head-taken k s = refl

-- the bytes that stand in the room are the bodies
pub bodies-taken : (kind : ℕ) (s room : List ℕ) (t : Takes kind s (length room)) → bodies_taken kind s room ≡ bodies_in t.k s
bodies-taken kind s room t =
    rw (takes-apart kind s (length room) t, apart-stored kind s room t)
    (take_at (bodies_in t.k s) (drop (length (bodies_in t.k s)) room) (length (bodies_in t.k s)) refl)

-- *Taken apart, written*: what taking apart hands out of a file that it accepts, written under the same number, is accepted and the same bytes
pub taken-written :
    (kind : ℕ) (s room other : List ℕ) → (apart_of kind s (length room)).answer.number ≡ 0 → Bytes s → length s ≤ length other →
    Rewritten kind s room other
taken-written kind s room other z bytes h =
    let t = apart-takes kind s (length room) z in
    let w = read-written kind t.k t.named s other (number_of t.reads) bytes h in
    record {
      k = t.k;
      named = t.named;
      accepts = rw (bodies-taken kind s room t, head-taken t.k s) w.0;
      stands = rw (bodies-taken kind s room t, head-taken t.k s) w.1;
    }

-- *Written, taken apart*: what the writer accepts is taken apart into what was given, wherever there is room for the bodies
pub written-taken :
    (kind : ℕ) (h : Head) (bodies room other : List ℕ) → (write_of kind h bodies (length room)).number ≡ 0 → length bodies ≤ length other →
    Retaken kind h bodies room other
written-taken kind h bodies room other z l =
    record {
      k = w.k;
      named = w.named;
      stands = w.stands;
      accepts = takes-apart kind (file_of w.k h bodies) (length other) t ∙ ap (storing accepted) w.bodies-back;
      bodies-back = rw w.bodies-back at (apart-stored kind (file_of w.k h bodies) other t);
      head-back = head-taken w.k (file_of w.k h bodies) ∙ w.head-back;
    }
  where
    w : Wrote kind h bodies room
    w = written_read kind h bodies room z

    t : Takes kind (file_of w.k h bodies) (length other)
    t = record { k = w.k; named = w.named; reads = w.reads; fits = rw w.bodies-back l }
