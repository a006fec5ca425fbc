-- The numbers of keys: keys with different numbers are different.
use Rattle.std.specs.Prelude.{ℕ, zero, suc, ◌+◌, ◌*◌, ◌%◌, List, length, get_or}

-- a number that keys have in common where they are the same, below 2 ^ 32
unfoldable pub hash_to : List ℕ → ℕ → ℕ
hash_to key zero = 0
hash_to key (suc w) = (hash_to key w * 31 + get_or key w 0) % 0x100000000

unfoldable pub hash_of : List ℕ → ℕ
hash_of key = hash_to key (length key)
