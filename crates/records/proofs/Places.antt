-- Where records lie in a file.
-- Assumes nothing.
use Prim.Native.Nat.{ℕ, ◌+◌, ◌*◌, ◌≤◌, ◌<◌}
use mathlib.Core.List.{List}
use native.Mathlib.Nat.{le_trans, suc-mul, mul-le-mul_right, div-mul-le_self, div-le_self}
use native.Mathlib.Omega.{arith}
use lib.ListN.{length}
use Rattle.kinds.specs.declared.of_files.Kind.{Kind}
use Rattle.kinds.specs.Kinds.{fixed_of}
use Rattle.tables.proofs.Tiling.{size-least}
use Rattle.records.specs.Records.{count_of}

-- record i of a file lies inside it
pub record-inside : (k : Kind) (s : List ℕ) (i : ℕ) → i < count_of k s → i * (fixed_of k).size + (fixed_of k).size ≤ length s
unfolding count_of
record-inside k s i h =
    rw (← suc-mul i (fixed_of k).size) (le_trans (mul-le-mul_right (fixed_of k).size h) (div-mul-le_self (length s) (fixed_of k).size))

-- there are no more records than bytes
pub count_small : (k : Kind) (s : List ℕ) → count_of k s ≤ length s
unfolding count_of
count_small k s = div-le_self (length s) (fixed_of k).size

-- a size divides
pub size-pos : (k : Kind) → 0 < (fixed_of k).size
size-pos k = omega (arith, size-least k)
