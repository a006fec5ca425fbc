-- The laws of the walk from unit to unit: the blocks that the units take, and where the walk ends.
-- Assumes nothing.
use Prim.Native.Nat.{ℕ, zero, suc, ◌+◌, ◌-◌, ◌*◌, ◌≤◌, ◌<◌}
use mathlib.Core.List.{List}
use mathlib.Core.Path.{◌≡◌, refl, sym}
use native.Mathlib.Numerals.{add-one}
use native.Mathlib.Omega.{arith}
use lib.ListN.{length}
use Rattle.laws.proofs.Leasts.{least-past}
use Rattle.laws.proofs.Sums.{sum-start, sum_more, sum-up}
use Rattle.kinds.specs.Kinds.{limit}
use Rattle.evidence.specs.Blocks.{block, blocks_for}
use Rattle.evidence.proofs.Walks.{blocks-enough}
use Rattle.evidence_builder.specs.Units.{place_of, done_at, units_in, said_by, blocks_to}
use Rattle.evidence_builder.proofs.Walked.{place-first, UnderWay}
use Rattle.evidence_builder.proofs.Walked as walked
use Rattle.evidence_writer.proofs.Built.{place-next}

-- the blocks, step by step
pub blocks-first : (x : List ℕ) → blocks_to x 0 ≡ 0
unfolding blocks_to
blocks-first x = sum-start (λ j. blocks_for (said_by x j))

pub blocks_more : (x : List ℕ) (i : ℕ) → blocks_to x (i + 1) ≡ blocks_to x i + blocks_for (said_by x i)
unfolding blocks_to
blocks_more x i = sum_more (λ j. blocks_for (said_by x j)) i

-- those of unit i and of the units before it are no more than all
pub blocks-up : (x : List ℕ) (n i : ℕ) → i < n → blocks_to x i + blocks_for (said_by x i) ≤ blocks_to x n
unfolding blocks_to
blocks-up x n i h = sum-up (λ j. blocks_for (said_by x j)) n i h

-- the units before unit i are no longer than their blocks
pub place-blocks : (x : List ℕ) (i : ℕ) → place_of x i ≤ blocks_to x i * block
place-blocks x zero = omega (arith, place-first x)
place-blocks x (suc i) = rw (← add-one i, place-next x i, blocks_more x i) (omega (arith, place-blocks x i, blocks-enough (said_by x i)))

-- a loop over the units: bytes are left for unit i, so it is not the end
module _ (x : List ℕ) (i : ℕ) (u : UnderWay x i) where
  pub way-more : place_of x i < length x → UnderWay x (i + 1)
  way-more h = walked.way-more x i (length x - place_of x i) refl u (λ z. absurd (omega (arith, h, z)))

  -- and there is a unit i
  pub way-met : i ≤ limit → place_of x i < length x → i < units_in x
  unfolding units_in
  way-met l h = least-past (done_at x) i (limit + 1) (omega (arith, l)) (way-more h)

  -- where none are left there is none more
  pub way_end : i ≤ limit → length x ≤ place_of x i → units_in x ≡ i
  way_end l h = sym (walked.way_end x i (length x - place_of x i) refl u l (omega (arith, h)))
