-- Written, then read: what the writer accepts is read as accepted and taken apart into what was given, and nothing else is accepted.
-- Assumes nothing.
use mathlib.Core.Bool.{Bool}
use mathlib.Core.List.{List}
use mathlib.Core.Logic.{◌↔◌}
use mathlib.Core.Path.{◌≡◌, sym, ◌∙◌, ap}
use Prim.Native.Nat.{ℕ}
use Rattle.answers.specs.Answers.{accepted}
use Rattle.evidence_builder.specs.Files.{file_of}
use Rattle.evidence_writer.specs.Writing.{decided}
use Rattle.evidence_writer.specs.Apart.{date_in, code_in, units_of, Holds, Came}
use Rattle.evidence_writer.proofs.Decides.{decided-exact}
use Rattle.evidence_writer.proofs.Accepted.{written-holds}
use Rattle.evidence_writer.proofs.Rewritten.{taken-written}

-- *Written, read*: what the writer accepts is read as accepted, and taken apart is what was given
pub written-taken : (exempt : Bool) (date code x : List ℕ) → decided exempt date code x ≡ accepted → Holds exempt date code x (file_of date code x)
written-taken exempt date code x e = written-holds exempt date code x ((decided-exact exempt date code x).0 e)

-- *Exact*: the writer accepts exactly what some accepted file is taken apart into
pub write-exact : (exempt : Bool) (date code x : List ℕ) → (decided exempt date code x ≡ accepted) ↔ Came exempt date code x
write-exact exempt date code x = (
  λ e.
      let h = written-taken exempt date code x e in
      record { file = file_of date code x; good = h.good; date-of = h.date-held; code-of = h.code-held; units-of = h.all },
  λ c. rw (c.date-of, c.code-of, c.units-of) at (taken-written exempt c.file c.good).good,
)

-- *No two*: no two things that the writer accepts give the same file
pub one-file :
    (exempt : Bool) (date code x date' code' x' : List ℕ) → decided exempt date code x ≡ accepted → decided exempt date' code' x' ≡ accepted →
    file_of date code x ≡ file_of date' code' x' → (date ≡ date') × ((code ≡ code') × (x ≡ x'))
one-file exempt date code x date' code' x' a b e =
    let h = written-taken exempt date code x a in
    let g = written-taken exempt date' code' x' b in (
      sym h.date-held ∙ (ap date_in e ∙ g.date-held),
      (sym h.code-held ∙ (ap code_in e ∙ g.code-held), sym h.all ∙ (ap units_of e ∙ g.all)),
    )
