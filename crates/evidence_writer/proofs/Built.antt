-- The units that are given are all of it, and the file to be written is as long as its blocks.
-- Assumes nothing.
use Prim.Native.Nat.{ℕ, zero, suc, ◌+◌, ◌-◌, ◌*◌, ◌≤◌, zero-le}
use mathlib.Core.Bool.{Bool}
use mathlib.Core.List.{List, ◌++◌}
use mathlib.Core.Path.{◌≡◌, refl, sym, ◌∙◌}
use native.Mathlib.Nat.{le_refl, le_antisymm}
use native.Mathlib.Omega.{arith}
use borrow.Author.Tests.{leb-true}
use lib.ListN.{length, take, length-append}
use lib.Seq.{take-add, take-length}
use Rattle.laws.specs.Joined.{joined}
use Rattle.laws.specs.Part.{part}
use Rattle.laws.specs.Sum.{sum}
use Rattle.laws.proofs.Leasts.{least-is}
use Rattle.laws.proofs.Parts.{part_length}
use Rattle.numbers.specs.Numbers.{digits_of}
use Rattle.numbers.proofs.Values.{digits-length}
use Rattle.kinds.specs.Kinds.{limit}
use Rattle.evidence.specs.Blocks.{block, front, blocks_for}
use Rattle.evidence.proofs.Walks.{blocks-enough}
use Rattle.evidence_units.specs.Units.{items}
use Rattle.evidence_builder.specs.Units.{place_of, done_at, said_by, unit_of, units_in, blocks_to}
use Rattle.evidence_builder.specs.Files.{blanks, marks, institution_of, header_block, record_front, record_of, trailer_block, file_of}
use Rattle.evidence_builder.proofs.Walked.{place-more}
use Rattle.evidence_builder.proofs.Written.{blanks-length, marks-length, institution-length, front_length}
use Rattle.evidence_writer.specs.Writing.{Whole}
use Rattle.evidence_writer.specs.Given.{Given}

-- unit after unit
pub place-next : (x : List ℕ) (i : ℕ) → place_of x (i + 1) ≡ place_of x i + (items + said_by x i)
unfolding said_by
place-next x i = place-more x i

pub unit-long : (x : List ℕ) (i : ℕ) → place_of x i + (items + said_by x i) ≤ length x → length (unit_of x i) ≡ items + said_by x i
unfolding unit_of
unit-long x i h = part_length (place_of x i) (items + said_by x i) x h

-- up to unit i stand the units before it
pub units-before : (x : List ℕ) (i : ℕ) → joined (unit_of x) i ≡ take (place_of x i) x
unfolding joined place_of unit_of said_by part
units-before x zero = refl
units-before x (suc i) = rw (units-before x i) (sym (take-add (place_of x i) (items + said_by x i) x))

pub place-within : (x : List ℕ) (n : ℕ) → Whole x n → (i : ℕ) → i ≤ n → place_of x i ≤ length x
unfolding place_of said_by
place-within x n w zero h = zero-le
place-within x n w (suc i) h = w i h

-- the walk ends where nothing is left
pub place-done : (x : List ℕ) → units_in x ≤ limit → length x ≤ place_of x (units_in x)
unfolding units_in done_at
place-done x few = leb-true _ _ ((least-is (done_at x) (limit + 1)).holds (omega arith))

module _ (x : List ℕ) (few : units_in x ≤ limit) (whole : Whole x (units_in x)) where
  -- the last unit ends with what is given
  pub place-last : place_of x (units_in x) ≡ length x
  place-last = le_antisymm (place-within x (units_in x) whole (units_in x) (le_refl (units_in x))) (place-done x few)

  pub units-all : joined (unit_of x) (units_in x) ≡ x
  units-all = units-before x (units_in x) ∙ rw place-last (take-length x)

-- header and trailer are one block each
module _ (code : List ℕ) (coded : length code ≡ 10) where
  pub header-long : (date : List ℕ) (n : ℕ) → length date ≡ 8 → length (header_block date code n) ≡ block
  unfolding header_block
  header-long date n e =
      rw (
        length-append (marks 0x31) (digits_of 7 0 ++ (date ++ (institution_of code ++ (digits_of 7 n ++ blanks 974)))),
        length-append (digits_of 7 0) (date ++ (institution_of code ++ (digits_of 7 n ++ blanks 974))),
        length-append date (institution_of code ++ (digits_of 7 n ++ blanks 974)),
        length-append (institution_of code) (digits_of 7 n ++ blanks 974),
        length-append (digits_of 7 n) (blanks 974),
        marks-length 0x31,
        digits-length 7 0,
        e,
        institution-length code coded,
        digits-length 7 n,
      )

  pub trailer-long : (n blocks : ℕ) → length (trailer_block code n blocks) ≡ block
  unfolding trailer_block
  trailer-long n blocks =
      rw (
        length-append (marks 0x33) (digits_of 7 9999999 ++ (institution_of code ++ (digits_of 7 n ++ (digits_of 10 blocks ++ blanks 972)))),
        length-append (digits_of 7 9999999) (institution_of code ++ (digits_of 7 n ++ (digits_of 10 blocks ++ blanks 972))),
        length-append (institution_of code) (digits_of 7 n ++ (digits_of 10 blocks ++ blanks 972)),
        length-append (digits_of 7 n) (digits_of 10 blocks ++ blanks 972),
        length-append (digits_of 10 blocks) (blanks 972),
        marks-length 0x33,
        digits-length 7 9999999,
        institution-length code coded,
        digits-length 7 n,
        digits-length 10 blocks,
      )

  -- a record has the blocks of its evidence
  pub record-long : (x : List ℕ) (i : ℕ) → place_of x i + (items + said_by x i) ≤ length x → length (record_of code x i) ≡ blocks_for (said_by x i) * block
  unfolding record_of
  record-long x i h =
      let left = blocks_for (said_by x i) * block - (front + said_by x i) in
      length-append (record_front code (i + 1)) (unit_of x i ++ blanks left) ∙
      omega (
        arith,
        length-append (unit_of x i) (blanks left),
        front_length code (i + 1) coded,
        unit-long x i h,
        blanks-length left,
        blocks-enough (said_by x i),
      )

  pub records-long : (x : List ℕ) (n : ℕ) → Whole x n → length (joined (record_of code x) n) ≡ blocks_to x n * block
  unfolding joined blocks_to sum
  records-long x zero w = refl
  records-long x (suc n) w =
      length-append (joined (record_of code x) n) (record_of code x n) ∙
      omega (arith, records-long x n (λ i h. w i (omega arith)), record-long x n (w n (le_refl (suc n))))

pub given-whole : (exempt : Bool) (date code x : List ℕ) → Given exempt date code x → Whole x (units_in x)
given-whole exempt date code x g i h = (g.each i h).inside

-- *Its length*: the blocks of its records, and two
pub file-long : (exempt : Bool) (date code x : List ℕ) → Given exempt date code x → length (file_of date code x) ≡ (blocks_to x (units_in x) + 2) * block
unfolding file_of
file-long exempt date code x g =
    let n = units_in x in
    let records = joined (record_of code x) n in
    let trailer = trailer_block code n (blocks_to x n) in
    length-append (header_block date code n) (records ++ trailer) ∙
    omega (
      arith,
      length-append records trailer,
      header-long code g.code-long date n g.date-long,
      records-long code g.code-long x n (given-whole exempt date code x g),
      trailer-long code g.code-long n (blocks_to x n),
    )
