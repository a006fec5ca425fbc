-- One item behind the other.
use Prim.Native.Nat.{◌+◌}
use mathlib.Core.List.{◌++◌}
use Rattle.numbers.specs.Numbers.{digits_of}
use Rattle.numbers.proofs.Values.{digits-length}
use Rattle.evidence_builder.specs.Files.{blanks, marks, institution_of, record_front}
use Rattle.evidence_builder.proofs.Written.{blanks-length, marks-length}
use Rattle.laws.proofs.Stores.{stored-then}
use native.Mathlib.Omega.{arith}
use borrow.Author.Rules.{rules}
use Rattle.evidence_builder.proofs.files.put_front.Goals as goal

pub returns : goal.returns
unfolding record_front
returns c =
    let at = c.args.at in
    let code = c.args.code.now in
    let n = c.args.n in
    let last = c.institution.new.room in
    let r₁ = c.marks.new.room in
    let r₂ = c.put_digits.new.room in
    let r₃ = c.blanks.new.room in
    stored-then at (at + 8) (marks 0x32) (digits_of 7 n ++ (blanks 10 ++ institution_of code)) c.args.room.now r₁ last c.marks.ensures
    (stored-then (at + 8) (at + 15) (digits_of 7 n) (blanks 10 ++ institution_of code) r₁ r₂ last c.put_digits.ensures
    (stored-then (at + 15) (at + 25) (blanks 10) (institution_of code) r₂ r₃ last c.blanks.ensures c.institution.ensures
    (omega (arith, blanks-length 10)) (search rules))
    (omega (arith, digits-length 7 n)) (search rules))
    (omega (arith, marks-length 0x32)) (search rules)
