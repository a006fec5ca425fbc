-- The kit's sum of a list.
use Rattle.std.proofs.Common.{◌≤◌, ◌*◌, ◌≡◌, refl, ◌∙◌, ℕ, List, length, arith}
use Rattle.std.specs.List as list
use Rattle.std.proofs.lemmas.Iterator.{YieldsList-from_slice}
use Rattle.std.proofs.lemmas.Iterator.Consumers.{sum_from_yields_List, fits_from_yields_list}
use native.Mathlib.Nat.{le_of_lt}
use Rattle.laws.specs.Sum.{sum}
use Rattle.laws.proofs.Positions.{sum_places}
use Rattle.laws.proofs.Sums.{sum_bound}
use Rattle.day.specs.Contents.{length_end}
use Rattle.day.specs.Bodies.{size_at, Short}
use Rattle.day.proofs.bodies.total.Goals as goal

by-place : (lengths : List ℕ) → list.sum lengths ≡ sum (size_at lengths) (length lengths)
unfolding size_at
by-place lengths = sum_places (λ x. x) lengths 0

bounded : (lengths : List ℕ) → Short (size_at lengths) (length lengths) → sum (size_at lengths) (length lengths) ≤ length lengths * length_end
bounded lengths short = sum_bound (size_at lengths) length_end (length lengths) (λ i h. le_of_lt (short i h))

pub sum-requires-clause-fits : goal.sum-requires-clause-fits
sum-requires-clause-fits c =
    fits_from_yields_list _ _ (YieldsList-from_slice c.args.lengths.now c.iter.ensures.rest)
    (rw (by-place c.args.lengths.now) (omega (arith, bounded c.args.lengths.now c.requires.short, c.requires.few)))

pub returns : goal.returns
returns c =
    let e = sum_from_yields_List _ _ c.sum.ensures.ran (YieldsList-from_slice c.args.lengths.now c.iter.ensures.rest) ∙ by-place c.args.lengths.now in
    rw e (record {
      value = refl;
      upper_bound = bounded c.args.lengths.now c.requires.short;
    })
