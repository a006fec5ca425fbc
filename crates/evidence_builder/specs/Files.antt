-- The evidence file to be written: header, records, trailer.
use Rattle.std.specs.Prelude.{ℕ, ◌+◌, ◌-◌, ◌*◌, List, [], ◌∷◌, ◌++◌, replicate}
use Rattle.laws.specs.Joined.{joined}
use Rattle.numbers.specs.Numbers.{digits_of}
use Rattle.evidence.specs.Blocks.{block, front, blocks_for}
use Rattle.evidence_builder.specs.Units.{said_by, unit_of, units_in, blocks_to}

abbrev pub blanks : ℕ → List ℕ
blanks n = replicate n 0x20

-- AE1112 and the record's mark
unfoldable pub marks : ℕ → List ℕ
marks mark = 0x41 ∷ 0x45 ∷ 0x31 ∷ 0x31 ∷ 0x31 ∷ 0x32 ∷ mark ∷ mark ∷ []

-- an institution code in 20 bytes
unfoldable pub institution_of : List ℕ → List ℕ
institution_of code = code ++ blanks 10

unfoldable pub header_block : List ℕ → List ℕ → ℕ → List ℕ
header_block date code n = marks 0x31 ++ (digits_of 7 0 ++ (date ++ (institution_of code ++ (digits_of 7 n ++ blanks 974))))

-- items 1 to 5 of record n
unfoldable pub record_front : List ℕ → ℕ → List ℕ
record_front code n = marks 0x32 ++ (digits_of 7 n ++ (blanks 10 ++ institution_of code))

-- record i + 1: its front, its unit, and its filler
unfoldable pub record_of : List ℕ → List ℕ → ℕ → List ℕ
record_of code x i =
    record_front code (i + 1) ++ (unit_of x i ++ blanks (blocks_for (said_by x i) * block - (front + said_by x i)))

unfoldable pub trailer_block : List ℕ → ℕ → ℕ → List ℕ
trailer_block code n blocks =
    marks 0x33 ++ (digits_of 7 9999999 ++ (institution_of code ++ (digits_of 7 n ++ (digits_of 10 blocks ++ blanks 972))))

-- the file: header, records, trailer
unfoldable pub file_of : List ℕ → List ℕ → List ℕ → List ℕ
file_of date code x =
    header_block date code (units_in x) ++
    (joined (record_of code x) (units_in x) ++ trailer_block code (units_in x) (blocks_to x (units_in x)))
