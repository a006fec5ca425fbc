-- Where a part of a file lies.
use Rattle.std.specs.Prelude.{ℕ, Option, Some, None, Result, Ok, Err, Bool, ◌&&◌, leb}
use Rattle.answers.specs.declared.lying.Part.{Part}

-- the file is refused; the part begins at a byte of the file and is so long; or there is none of that number
pub data Lies : Type 0 where
  Refused : Lies
  From : (start size : ℕ) → Lies
  Nowhere : Lies

-- what a result says that is the part, if there is one of that number
abbrev pub part_lies : Option Part → Lies
part_lies (Some part) = From part.start part.size
part_lies None = Nowhere

abbrev pub lies_by : {E : Type 0} → Result (Option Part) E → Lies
lies_by (Ok part) = part_lies part
lies_by (Err e) = Refused

-- there is a number k of n; numbers count from 1
unfoldable pub is_one : ℕ → ℕ → Bool
is_one k n = leb 1 k && leb k n

-- the case as a number, the first byte and the length
abbrev pub case_of : Lies → ℕ
case_of Refused = 0
case_of (From start size) = 1
case_of Nowhere = 2

abbrev pub first_of : Lies → ℕ
first_of Refused = 0
first_of (From start size) = start
first_of Nowhere = 0

abbrev pub size_of : Lies → ℕ
size_of Refused = 0
size_of (From start size) = size
size_of Nowhere = 0
