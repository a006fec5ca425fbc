-- A file is taken apart exactly when its kind is a request, it is read as accepted, and the room is long enough.
-- Assumes nothing.
use Prim.Native.Nat.{ℕ}
use mathlib.Core.Bool.{true, false}
use mathlib.Core.List.{List, []}
use mathlib.Core.Path.{◌≡◌, refl, sym, ◌∙◌}
use mathlib.Core.Logic.{◌↔◌, ⊎_elim}
use native.Mathlib.Omega.{arith}
use borrow.Author.Tests.{leb-true, leb-false}
use lib.Dec.{leb}
use lib.ListN.{length}
use Rattle.laws.proofs.Bools.{either}
use Rattle.kinds.specs.declared.of_files.Kind.{Kind}
use Rattle.std.specs.Prelude.{Option, Some, None}
use Rattle.answers.specs.declared.told.Answer.{Answer}
use Rattle.answers.specs.Answers.{accepted, refuses}
use Rattle.answers.specs.Storing.{storing, at_front}
use Rattle.answers.proofs.Refusals.{number_of, refuses-zero, refuses-other}
use Rattle.reader.specs.Reading.{read_as, read_of}
use Rattle.reader.proofs.Accepted.{read_named_lem, read-zero}
use Rattle.kinds.specs.Kinds.{request_of}
use Rattle.writer.specs.Apart.{bodies_in}
use Rattle.writer.proofs.Requests.{request-kind}
use Rattle.apart.specs.Taking.{apart_as, apart_named, stored_named, apart_told, apart_stored, apart_of, apart_after}
use Rattle.apart.specs.Says.{Tells, Takes}
use Rattle.apart.proofs.Stored.{apart-read, apart-8, apart-good, stored-none, stored-all}

module _ (kind : ℕ) (s : List ℕ) (room : ℕ) where
  tells_as : (k : Kind) → request_of kind ≡ Some k → Tells kind s room (apart_as k s room)
  tells_as k e = ⊎_elim bad good (either (refuses (read_as k s)))
    where
      same : read_of kind s ≡ read_as k s
      same = read_named_lem kind s k (request-kind kind k e)

      bad : refuses (read_as k s) ≡ true → Tells kind s room (apart_as k s room)
      bad t =
          let ne = refuses-other (read_as k s) t in
          rw (apart-read k s room ne, ← same) (Tells.read k e (λ z. ne (number_of (sym same) ∙ z)))

      good : refuses (read_as k s) ≡ false → Tells kind s room (apart_as k s room)
      good f =
          let z = refuses-zero (read_as k s) f in
          let r = same ∙ read-zero k s z in
          ⊎_elim
          (λ b. let h = leb-true (length (bodies_in k s)) room b in rw (apart-good k s room z h) (Tells.good k e r h))
          (λ b. let l = leb-false (length (bodies_in k s)) room b in rw (apart-8 k s room z l) (Tells.short k e r l))
          (either (leb (length (bodies_in k s)) room))

  tells-named : (n : Option Kind) → request_of kind ≡ n → Tells kind s room (apart_named n s room)
  tells-named (Some k) e = tells_as k e
  tells-named None e = Tells.other e

  -- *Every answer of taking apart, by its case*: 1, then as reading, then 8
  pub apart-tells : Tells kind s room (apart_of kind s room).answer
  unfolding apart_of apart_told
  apart-tells = tells-named (request_of kind) refl

  tells-takes : (a : Answer) → Tells kind s room a → a.number ≡ 0 → Takes kind s room
  tells-takes a (Tells.other e) z = absurd (omega arith)
  tells-takes a (Tells.read k e ne) z = absurd (ne z)
  tells-takes a (Tells.short k e r l) z = absurd (omega arith)
  tells-takes a (Tells.good k e r h) z = record { k = k; named = e; reads = r; fits = h }

  pub apart-takes : (apart_of kind s room).answer.number ≡ 0 → Takes kind s room
  apart-takes = tells-takes (apart_of kind s room).answer apart-tells

  -- what is answered then, and what is stored
  pub takes-apart : (t : Takes kind s room) → apart_of kind s room ≡ storing accepted (bodies_in t.k s)
  unfolding apart_of apart_told apart_stored
  takes-apart t =
      let k = t.k in
      let z = number_of (sym (read_named_lem kind s k (request-kind kind k t.named)) ∙ t.reads) in
      let g = apart-good k s room z t.fits in
      rw (t.named, g, stored-all k s room (number_of g))

  -- *Accepted exactly*: when the kind is a request, the file is read as accepted, and the room is long enough
  pub apart-exact : ((apart_of kind s room).answer ≡ accepted) ↔ Takes kind s room
  apart-exact = (λ e. apart-takes (number_of e), λ t. rw (takes-apart t))

-- what the room holds after it: the bodies and what it held past them, or, when refused, what it held
module _ (kind : ℕ) (s room : List ℕ) where
  pub apart-stored : (t : Takes kind s (length room)) → apart_after kind s room ≡ at_front (bodies_in t.k s) room
  unfolding apart_after apart_stored
  apart-stored t =
      let k = t.k in
      let z = number_of (sym (read_named_lem kind s k (request-kind kind k t.named)) ∙ t.reads) in
      rw (t.named, stored-all k s (length room) (number_of (apart-good k s (length room) z t.fits)))

  kept-named : (n : Option Kind) → ((apart_named n s (length room)).number ≡ 0 → ⊥) → stored_named n s (length room) ≡ []
  kept-named (Some k) ne = stored-none k s (length room) ne
  kept-named None ne = refl

  -- *A refusal changes nothing*
  pub apart-kept : ((apart_of kind s (length room)).answer.number ≡ 0 → ⊥) → ((apart_of kind s (length room)).size ≡ 0) × (apart_after kind s room ≡ room)
  unfolding apart_of apart_told apart_after apart_stored
  apart-kept ne = rw (kept-named (request_of kind) ne) (refl, refl)
