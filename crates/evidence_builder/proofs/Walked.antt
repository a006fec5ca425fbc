-- The laws of the walk from unit to unit, by the bytes that are left.
-- Assumes nothing.
use Prim.Native.Nat.{ℕ, ◌+◌, ◌-◌, ◌≤◌}
use mathlib.Core.List.{List}
use mathlib.Core.Path.{◌≡◌, refl, sym, ◌∙◌, ap}
use native.Mathlib.Numerals.{add-one}
use native.Mathlib.Omega.{arith}
use borrow.Author.Tests.{le-leb, lt-leb}
use lib.ListN.{length}
use Rattle.laws.specs.Least.{least}
use Rattle.laws.proofs.Leasts.{least_more, least-stop}
use Rattle.kinds.specs.Kinds.{limit}
use Rattle.evidence_units.specs.Units.{items, said_at}
use Rattle.evidence_builder.specs.Units.{place_of, done_at, units_in}

-- the walk, step by step
pub place-first : (x : List ℕ) → place_of x 0 ≡ 0
unfolding place_of
place-first x = refl

pub place-more : (x : List ℕ) (i : ℕ) → place_of x (i + 1) ≡ place_of x i + (items + said_at x (place_of x i))
unfolding place_of
place-more x i = rw add-one

-- so many bytes are left from unit i on
abbrev pub Left : List ℕ → ℕ → ℕ → Type 0
Left x i left = left ≡ length x - place_of x i

pub left-first : (x : List ℕ) → Left x 0 (length x)
left-first x = rw (place-first x) (omega arith)

-- unit i takes its own of them
pub left-more : (x : List ℕ) (i left : ℕ) → Left x i left → (left ≡ 0 → ⊥) → Left x (i + 1) (left - (items + said_at x (length x - left)))
left-more x i left e some =
    let here : length x - left ≡ place_of x i = omega (arith, e, some) in
    rw (here, place-more x i) (omega (arith, e))

-- a loop over the units: none before unit i was the end
abbrev pub UnderWay : List ℕ → ℕ → Type 0
UnderWay x i = least (done_at x) i ≡ i

pub way-more : (x : List ℕ) (i left : ℕ) → Left x i left → UnderWay x i → (left ≡ 0 → ⊥) → UnderWay x (i + 1)
unfolding done_at
way-more x i left e u some = least_more (done_at x) i u (lt-leb (length x) (place_of x i) (omega (arith, e, some)))

-- with nothing left there is no unit more
pub way_end : (x : List ℕ) (i left : ℕ) → Left x i left → UnderWay x i → i ≤ limit → left ≡ 0 → i ≡ units_in x
unfolding units_in done_at
way_end x i left e u l none = sym (least-stop (done_at x) i (limit + 1) (omega arith) u (le-leb (length x) (place_of x i) (omega (arith, e, none))))

-- and past the limit none is counted
pub way-past : (x : List ℕ) (i : ℕ) → UnderWay x i → i ≡ limit + 1 → i ≡ units_in x
unfolding units_in
way-past x i u e = sym u ∙ ap (least (done_at x)) e
