-- One item behind the other.
use mathlib.Core.List.{◌++◌}
use Rattle.numbers.specs.Numbers.{digits_of}
use Rattle.numbers.proofs.Values.{digits-length}
use Rattle.evidence_builder.specs.Files.{blanks, marks, institution_of, header_block}
use Rattle.evidence_builder.proofs.Written.{marks-length, institution-length}
use Rattle.laws.proofs.Stores.{stored-then}
use native.Mathlib.Omega.{arith}
use borrow.Author.Rules.{rules}
use Rattle.evidence_builder.proofs.files.put_header.Goals as goal

pub returns : goal.returns
unfolding header_block
returns c =
    let room = c.args.room.now in
    let date = c.args.date.now in
    let code = c.args.code.now in
    let n = c.args.n in
    let last = c.blanks.new.room in
    let r₁ = c.marks.new.room in
    let r₂ = c.put_digits.new.room in
    let r₃ = c.put.new.room in
    let r₄ = c.institution.new.room in
    let r₅ = c.put_digits-2.new.room in
    stored-then 0 8 (marks 0x31) (digits_of 7 0 ++ (date ++ (institution_of code ++ (digits_of 7 n ++ blanks 974)))) room r₁ last c.marks.ensures
    (stored-then 8 15 (digits_of 7 0) (date ++ (institution_of code ++ (digits_of 7 n ++ blanks 974))) r₁ r₂ last c.put_digits.ensures
    (stored-then 15 23 date (institution_of code ++ (digits_of 7 n ++ blanks 974)) r₂ r₃ last c.put.ensures
    (stored-then 23 43 (institution_of code) (digits_of 7 n ++ blanks 974) r₃ r₄ last c.institution.ensures
    (stored-then 43 50 (digits_of 7 n) (blanks 974) r₄ r₅ last c.put_digits-2.ensures c.blanks.ensures
    (omega (arith, digits-length 7 n)) (search rules))
    (omega (arith, institution-length code c.requires.code_len)) (search rules))
    (omega (arith, c.requires.date_len)) (search rules))
    (omega (arith, digits-length 7 0)) (search rules))
    (omega (arith, marks-length 0x31)) (search rules)
