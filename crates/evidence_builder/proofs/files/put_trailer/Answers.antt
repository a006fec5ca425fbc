-- One item behind the other.
use Prim.Native.Nat.{◌+◌}
use mathlib.Core.List.{◌++◌}
use Rattle.numbers.specs.Numbers.{digits_of}
use Rattle.numbers.proofs.Values.{digits-length}
use Rattle.evidence_builder.specs.Files.{blanks, marks, institution_of, trailer_block}
use Rattle.evidence_builder.proofs.Written.{marks-length, institution-length}
use Rattle.laws.proofs.Stores.{stored-then}
use native.Mathlib.Omega.{arith}
use borrow.Author.Rules.{rules}
use Rattle.evidence_builder.proofs.files.put_trailer.Goals as goal

pub returns : goal.returns
unfolding trailer_block
returns c =
    let at = c.args.at in
    let room = c.args.room.now in
    let code = c.args.code.now in
    let n = c.args.n in
    let blocks = c.args.blocks in
    let last = c.blanks.new.room in
    let r₁ = c.marks.new.room in
    let r₂ = c.put_digits.new.room in
    let r₃ = c.institution.new.room in
    let r₄ = c.put_digits-2.new.room in
    let r₅ = c.put_digits-3.new.room in
    stored-then at (at + 8) (marks 0x33) (digits_of 7 9999999 ++ (institution_of code ++ (digits_of 7 n ++ (digits_of 10 blocks ++ blanks 972)))) room r₁ last c.marks.ensures
    (stored-then (at + 8) (at + 15) (digits_of 7 9999999) (institution_of code ++ (digits_of 7 n ++ (digits_of 10 blocks ++ blanks 972))) r₁ r₂ last c.put_digits.ensures
    (stored-then (at + 15) (at + 35) (institution_of code) (digits_of 7 n ++ (digits_of 10 blocks ++ blanks 972)) r₂ r₃ last c.institution.ensures
    (stored-then (at + 35) (at + 42) (digits_of 7 n) (digits_of 10 blocks ++ blanks 972) r₃ r₄ last c.put_digits-2.ensures
    (stored-then (at + 42) (at + 52) (digits_of 10 blocks) (blanks 972) r₄ r₅ last c.put_digits-3.ensures c.blanks.ensures
    (omega (arith, digits-length 10 blocks)) (search rules))
    (omega (arith, digits-length 7 n)) (search rules))
    (omega (arith, institution-length code c.requires.code_len)) (search rules))
    (omega (arith, digits-length 7 9999999)) (search rules))
    (omega (arith, marks-length 0x33)) (search rules)
