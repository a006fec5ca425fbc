-- Keys chained by their slots, so that the search for a key costs the length of one chain. One list of links: first, for each
-- slot, the last key that goes to it; then, for each key, the one before it in the same slot. All are counted from 1, and 0 is none.
use Rattle.std.specs.Prelude.{ℕ, zero, suc, ◌+◌, ◌%◌, ◌≤◌, ◌<◌, Bool, true, cond, List, ◌≡◌, eqb, length, get_or, set, replicate}
use Rattle.keys.specs.Hashes.{hash_of}

-- the slots that keys go to
unfoldable pub slots : ℕ
slots = 4051

-- the last of n places where p holds, counted from 1; 0 where there is none
unfoldable pub last : (ℕ → Bool) → ℕ → ℕ
last p zero = 0
last p (suc n) = cond (p n) (suc n) (last p n)

-- the slot of a key: the remainder of its number
unfoldable pub slot_of : List ℕ → ℕ
slot_of key = hash_of key % slots

-- key i goes to slot b
unfoldable pub in_slot : (ℕ → List ℕ) → ℕ → ℕ → Bool
in_slot key b i = eqb (slot_of (key i)) b

-- n keys are chained
pub record Chained (key : ℕ → List ℕ) (n : ℕ) (links : List ℕ) : Type 0 where
  pub room : slots + n ≤ length links
  pub lasts : (b : ℕ) → b < slots → get_or links b 0 ≡ last (in_slot key b) n
  pub befores : (i : ℕ) → i < n → get_or links (slots + i) 0 ≡ last (in_slot key (slot_of (key i))) i

-- a link of the chain of slot b: one of the n keys that goes there, or none
pub record Link (key : ℕ → List ℕ) (n b at : ℕ) : Type 0 where
  pub within : at ≤ n
  pub goes : (i : ℕ) → at ≡ i + 1 → in_slot key b i ≡ true

-- the links once a key joins the i that are chained
unfoldable pub links_with : List ℕ → ℕ → List ℕ → List ℕ
links_with key i links = set (set links (slots + i) (get_or links (slot_of key) 0)) (slot_of key) (i + 1)

-- no key is chained
unfoldable pub no_links : List ℕ → List ℕ
no_links links = replicate (length links) 0

-- n keys are chained in what was lent
unfoldable pub links_of : (ℕ → List ℕ) → ℕ → List ℕ → List ℕ
links_of key zero links = no_links links
links_of key (suc n) links = links_with (key n) n (links_of key n links)
