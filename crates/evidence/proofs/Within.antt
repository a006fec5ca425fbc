-- What lies inside the file: the blocks of a record, and the keys by a list of places.
-- Assumes nothing.
use Prim.Native.Nat.{ℕ, ◌+◌, ◌*◌, ◌≤◌, ◌<◌}
use mathlib.Core.List.{List}
use mathlib.Core.Path.{◌≡◌, ap}
use native.Mathlib.Omega.{arith}
use lib.ListN.{length, get_or}
use Rattle.laws.specs.Least.{least}
use Rattle.keys.specs.Keys.{repeats_in}
use Rattle.keys.specs.Stands.{key_in, Inside}
use Rattle.keys.proofs.Spaced.{anywhere, listed_at, listed-inside, first-same}
use Rattle.evidence.specs.Blocks.{block, blocks_for, blocks_in, last_block, length_at, next_of, records_in}
use Rattle.evidence.specs.Judged.{byte_of}
use Rattle.evidence.specs.Reading.{key_of, repeat_told, keys_told}
use Rattle.evidence.proofs.Walks.{block_inside}

-- a record that ends before the last block lies in the file with all its blocks
pub next-inside : (s : List ℕ) (b : ℕ) → b < blocks_in s → next_of s b ≤ last_block s → b * block + blocks_for (length_at s b) * block ≤ length s
unfolding next_of
next-inside s b h l = omega (arith, block_inside s (b + blocks_for (length_at s b)) (omega arith))

-- a list that holds the first byte of each of n records
module _ (s places : List ℕ) (n : ℕ) (holds : (i : ℕ) → i < n → get_or places i 0 ≡ byte_of s i) where
  pub listed : (i : ℕ) → i < n → key_in places (anywhere 45 61) s i ≡ key_of s i
  unfolding key_of
  listed = listed_at places s 45 61 n (byte_of s) holds

  -- their keys lie inside
  pub keys-inside : ((i : ℕ) → i < n → byte_of s i + 1024 ≤ length s) → Inside places (anywhere 45 61) s n
  keys-inside inside = listed-inside places s 45 61 n (byte_of s) holds (λ i h. omega (arith, inside i h))

  -- and the first that repeats tells of the file's
  pub keys-by : n ≡ records_in s → repeat_told n (least (repeats_in (key_in places (anywhere 45 61) s)) n) ≡ keys_told s
  unfolding keys_told
  keys-by all = rw (← all) (ap (repeat_told n) (first-same _ _ n listed))
