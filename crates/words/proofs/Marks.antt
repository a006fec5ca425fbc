-- The laws of what stands between marks: for a loop.
-- Assumes nothing.
use Prim.Native.Nat.{ℕ, ◌+◌}
use mathlib.Core.List.{List}
use mathlib.Core.Path.{◌≡◌, refl}
use native.Mathlib.Numerals.{add-one}
use Rattle.words.specs.Fields.{tail_by, after_by}

-- a loop that passes one b after the other
pub after_none : (b : ℕ) (s : List ℕ) → after_by b s 0 ≡ s
unfolding after_by
after_none b s = refl

pub after_more : (b : ℕ) (s : List ℕ) (i : ℕ) → after_by b s (i + 1) ≡ tail_by b (after_by b s i)
unfolding after_by
after_more b s i = rw add-one
