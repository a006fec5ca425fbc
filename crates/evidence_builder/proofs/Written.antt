-- How long each piece of a file is.
-- Assumes nothing.
use Prim.Native.Nat.{ℕ}
use mathlib.Core.List.{List, ◌++◌}
use mathlib.Core.Path.{◌≡◌, refl, ◌∙◌}
use lib.ListN.{length, length-append, length-replicate}
use Rattle.numbers.specs.Numbers.{digits_of}
use Rattle.numbers.proofs.Values.{digits-length}
use Rattle.evidence_builder.specs.Files.{blanks, marks, institution_of, record_front}

-- how long the pieces are
pub blanks-length : (n : ℕ) → length (blanks n) ≡ n
blanks-length n = length-replicate n 0x20

pub marks-length : (mark : ℕ) → length (marks mark) ≡ 8
unfolding marks
marks-length mark = refl

pub institution-length : (code : List ℕ) → length code ≡ 10 → length (institution_of code) ≡ 20
unfolding institution_of
institution-length code e = length-append code (blanks 10) ∙ rw e

pub front_length : (code : List ℕ) (n : ℕ) → length code ≡ 10 → length (record_front code n) ≡ 45
unfolding record_front
front_length code n e =
    rw (
      length-append (marks 0x32) (digits_of 7 n ++ (blanks 10 ++ institution_of code)),
      length-append (digits_of 7 n) (blanks 10 ++ institution_of code),
      length-append (blanks 10) (institution_of code),
      marks-length 0x32,
      digits-length 7 n,
      institution-length code e,
    )
