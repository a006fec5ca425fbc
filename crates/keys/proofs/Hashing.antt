-- The number of a key, byte after byte.
-- Assumes nothing.
use Prim.Native.Nat.{ℕ, ◌+◌, ◌*◌, ◌%◌}
use mathlib.Core.List.{List}
use mathlib.Core.Path.{◌≡◌, refl}
use native.Mathlib.Numerals.{add-one}
use lib.ListN.{get_or}
use Rattle.keys.specs.Hashes.{hash_to}

-- a loop that reads a key: `hash_to key i` so far
pub hash-start : (key : List ℕ) → hash_to key 0 ≡ 0
unfolding hash_to
hash-start key = refl

pub hash-more : (key : List ℕ) (i : ℕ) → hash_to key (i + 1) ≡ (hash_to key i * 31 + get_or key i 0) % 0x100000000
unfolding hash_to
hash-more key i = rw add-one
