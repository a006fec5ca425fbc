-- What stands where in the header and the trailer of the file to be written.
-- Assumes nothing.
use Prim.Native.Nat.{ℕ, ◌+◌}
use mathlib.Core.List.{List, ◌++◌}
use mathlib.Core.Path.{◌≡◌, ◌∙◌}
use native.Mathlib.Omega.{arith}
use lib.ListN.{length}
use Rattle.laws.specs.Part.{part}
use Rattle.laws.proofs.Pieces.{part-within, part-behind, part-first}
use Rattle.numbers.specs.Numbers.{digits_of}
use Rattle.numbers.proofs.Values.{digits-length}
use Rattle.evidence_builder.specs.Files.{blanks, marks, institution_of, header_block, trailer_block}
use Rattle.evidence_builder.proofs.Written.{marks-length, institution-length}

-- an institution code in 20 bytes: the code, and ten blanks
module _ (code rest : List ℕ) (coded : length code ≡ 10) where
  code-first : part 0 10 (institution_of code ++ rest) ≡ code
  unfolding institution_of
  code-first =
      part-within (institution_of code) rest 0 10 (omega (arith, institution-length code coded)) ∙ part-first code (blanks 10) 10 coded

  blanks-second : part 10 10 (institution_of code ++ rest) ≡ blanks 10
  unfolding institution_of part
  blanks-second =
      part-within (institution_of code) rest 10 10 (omega (arith, institution-length code coded)) ∙ part-behind code (blanks 10) 10 0 10 coded

module _ (date code : List ℕ) (n : ℕ) (dated : length date ≡ 8) (coded : length code ≡ 10) where
  abbrev H : List ℕ
  H = header_block date code n

  abbrev later : List ℕ
  later = digits_of 7 n ++ blanks 974

  -- the header, from its institution code on
  header-from : (a c : ℕ) → part (8 + (7 + (8 + a))) c H ≡ part a c (institution_of code ++ later)
  unfolding header_block
  header-from a c =
      part-behind (marks 0x31) (digits_of 7 0 ++ (date ++ (institution_of code ++ later))) 8 (7 + (8 + a)) c (marks-length 0x31) ∙
      (part-behind (digits_of 7 0) (date ++ (institution_of code ++ later)) 7 (8 + a) c (digits-length 7 0) ∙
      part-behind date (institution_of code ++ later) 8 a c dated)

  pub header-date : part 15 8 H ≡ date
  unfolding header_block
  header-date =
      part-behind (marks 0x31) (digits_of 7 0 ++ (date ++ (institution_of code ++ later))) 8 7 8 (marks-length 0x31) ∙
      (part-behind (digits_of 7 0) (date ++ (institution_of code ++ later)) 7 0 8 (digits-length 7 0) ∙
      part-first date (institution_of code ++ later) 8 dated)

  pub header-code : part 23 10 H ≡ code
  header-code = header-from 0 10 ∙ code-first code later coded

  pub header-institution : part 23 20 H ≡ institution_of code
  header-institution = header-from 0 20 ∙ part-first (institution_of code) later 20 (institution-length code coded)

  pub header-count : part 43 7 H ≡ digits_of 7 n
  header-count =
      header-from 20 7 ∙
      (part-behind (institution_of code) later 20 0 7 (institution-length code coded) ∙ part-first (digits_of 7 n) (blanks 974) 7 (digits-length 7 n))

module _ (code : List ℕ) (n blocks : ℕ) (coded : length code ≡ 10) where
  abbrev T : List ℕ
  T = trailer_block code n blocks

  abbrev counts : List ℕ
  counts = digits_of 7 n ++ (digits_of 10 blocks ++ blanks 972)

  -- the trailer, from its institution code on
  trailer-from : (a c : ℕ) → part (8 + (7 + a)) c T ≡ part a c (institution_of code ++ counts)
  unfolding trailer_block
  trailer-from a c =
      part-behind (marks 0x33) (digits_of 7 9999999 ++ (institution_of code ++ counts)) 8 (7 + a) c (marks-length 0x33) ∙
      part-behind (digits_of 7 9999999) (institution_of code ++ counts) 7 a c (digits-length 7 9999999)

  trailer-after : (a c : ℕ) → part (8 + (7 + (20 + a))) c T ≡ part a c counts
  trailer-after a c = trailer-from (20 + a) c ∙ part-behind (institution_of code) counts 20 a c (institution-length code coded)

  pub trailer-code : part 15 10 T ≡ code
  trailer-code = trailer-from 0 10 ∙ code-first code counts coded

  pub trailer-blank : part 25 10 T ≡ blanks 10
  trailer-blank = trailer-from 10 10 ∙ blanks-second code counts coded

  pub trailer-institution : part 15 20 T ≡ institution_of code
  trailer-institution = trailer-from 0 20 ∙ part-first (institution_of code) counts 20 (institution-length code coded)

  pub trailer-count : part 35 7 T ≡ digits_of 7 n
  trailer-count = trailer-after 0 7 ∙ part-first (digits_of 7 n) (digits_of 10 blocks ++ blanks 972) 7 (digits-length 7 n)

  pub trailer-blocks : part 42 10 T ≡ digits_of 10 blocks
  trailer-blocks =
      trailer-after 7 10 ∙
      (part-behind (digits_of 7 n) (digits_of 10 blocks ++ blanks 972) 7 0 10 (digits-length 7 n) ∙
      part-first (digits_of 10 blocks) (blanks 972) 10 (digits-length 10 blocks))

  pub trailer-filler : part 52 972 T ≡ blanks 972
  unfolding part
  trailer-filler =
      trailer-after 17 972 ∙
      (part-behind (digits_of 7 n) (digits_of 10 blocks ++ blanks 972) 7 10 972 (digits-length 7 n) ∙
      part-behind (digits_of 10 blocks) (blanks 972) 10 0 972 (digits-length 10 blocks))
