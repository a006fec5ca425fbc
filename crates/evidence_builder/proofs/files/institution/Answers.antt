-- The code, and the spaces behind it.
use Prim.Native.Nat.{◌+◌}
use Rattle.evidence_builder.specs.Files.{blanks, institution_of}
use Rattle.laws.proofs.Stores.{stored-then}
use native.Mathlib.Omega.{arith}
use Rattle.evidence_builder.proofs.files.institution.Goals as goal

pub returns : goal.returns
unfolding institution_of
returns c =
    let b = c.blanks in
    let p = c.put in
    let a = c.args in
    stored-then a.at (a.at + 10) a.code.now (blanks 10) a.room.now p.new.room b.new.room p.ensures b.ensures
    (omega (arith, c.requires.code_len)) (omega (arith, c.requires.at_in_bounds))
