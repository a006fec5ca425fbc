-- The laws of the walk from record to record: it goes forward, and the count of records is where it first meets the last block.
-- Assumes nothing.
use Prim.Native.Nat.{ℕ, zero, suc, ◌+◌, ◌*◌, ◌≤◌, ◌<◌}
use mathlib.Core.List.{List}
use mathlib.Core.Logic.{⊎_elim}
use mathlib.Core.Path.{◌≡◌, refl}
use native.Mathlib.Nat.{le_refl, le_trans, lt_trans, eq-or-lt_of_le, le_of_suc-le-suc, not-suc-le-zero, div-mul-le_self}
use native.Mathlib.Numerals.{add-one}
use native.Mathlib.Omega.{arith}
use borrow.Author.Tests.{le-leb, lt-leb, leb-true, leb-false}
use lib.ListN.{length}
use Rattle.laws.specs.Least.{least}
use Rattle.laws.proofs.Leasts.{least-is, least_more, least-stop, least-past}
use Rattle.kinds.specs.Kinds.{limit}
use Rattle.evidence.specs.Blocks.{block, front, blocks_for, blocks_in, last_block, length_at, next_of, start_of, at_end, records_in}

-- a record takes its blocks' bytes, and no block more than it needs
pub blocks-enough : (n : ℕ) → front + n ≤ blocks_for n * block
unfolding blocks_for
blocks-enough n = omega arith

pub blocks-tight : (n : ℕ) → blocks_for n * block ≤ front + n + 1023
unfolding blocks_for
blocks-tight n = div-mul-le_self (front + n + 1023) block

pub blocks-some : (n : ℕ) → 0 < blocks_for n
blocks-some n = omega (arith, blocks-enough n)

-- whole blocks lie in the file
pub block_inside : (s : List ℕ) (b : ℕ) → b < blocks_in s → b * block + block ≤ length s
unfolding blocks_in
block_inside s b h = omega arith

-- the walk, step by step
pub start_first : (s : List ℕ) → start_of s 0 ≡ 1
unfolding start_of
start_first s = refl

pub start-more : (s : List ℕ) (i : ℕ) → start_of s (i + 1) ≡ next_of s (start_of s i)
unfolding start_of
start-more s i = rw add-one

-- it goes forward
pub start_up : (s : List ℕ) (i : ℕ) → start_of s i < start_of s (i + 1)
unfolding next_of
start_up s i = rw (start-more s i) (omega (arith, blocks-some (length_at s (start_of s i))))

pub start-before : (s : List ℕ) (i j : ℕ) → i < j → start_of s i < start_of s j
start-before s i zero h = absurd (not-suc-le-zero h)
start-before s i (suc j) h =
    let up = rw add-one at (start_up s j) in
    ⊎_elim (λ e. rw e up) (λ l. lt_trans (start-before s i j l) up) (eq-or-lt_of_le (le_of_suc-le-suc h))

pub start-some : (s : List ℕ) (i : ℕ) → 1 ≤ start_of s i
start-some s zero = rw (start_first s) (le_refl 1)
start-some s (suc i) = le_trans (start-some s i) (omega (arith, rw add-one at (start_up s i)))

-- a loop over the records: the last block was not met before record i + 1 so far
abbrev pub UnderWay : List ℕ → ℕ → Type 0
UnderWay s i = least (at_end s) i ≡ i

pub way-more : (s : List ℕ) (i : ℕ) → UnderWay s i → start_of s i < last_block s → UnderWay s (i + 1)
unfolding at_end
way-more s i u h = least_more (at_end s) i u (lt-leb (last_block s) (start_of s i) h)

-- so there is a record i + 1
pub way-met : (s : List ℕ) (i : ℕ) → i < limit + 1 → UnderWay s i → start_of s i < last_block s → i < records_in s
unfolding records_in
way-met s i l u h = least-past (at_end s) i (limit + 1) l (way-more s i u h)

-- and at the last block there is none more
pub way_end : (s : List ℕ) (i : ℕ) → i < limit + 1 → UnderWay s i → last_block s ≤ start_of s i → records_in s ≡ i
unfolding records_in at_end
way_end s i l u h = least-stop (at_end s) i (limit + 1) l u (le-leb (last_block s) (start_of s i) h)

-- every record of the count begins before the last block
pub record-begins : (s : List ℕ) (i : ℕ) → i < records_in s → start_of s i < last_block s
unfolding records_in at_end
record-begins s i h = leb-false (last_block s) (start_of s i) ((least-is (at_end s) (limit + 1)).before i h)

pub records-most : (s : List ℕ) → records_in s ≤ limit + 1
unfolding records_in
records-most s = (least-is (at_end s) (limit + 1)).within

-- where there are no more than the limit, the walk ends at or past the last block
pub records-end : (s : List ℕ) → records_in s ≤ limit → last_block s ≤ start_of s (records_in s)
unfolding records_in at_end
records-end s h = leb-true _ _ ((least-is (at_end s) (limit + 1)).holds (omega arith))
