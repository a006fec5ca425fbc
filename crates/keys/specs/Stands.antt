-- Where keys stand in a list of bytes: at places that a list gives, at a fixed distance from each other, or both.
use Rattle.std.specs.Prelude.{ℕ, ◌+◌, ◌*◌, ◌≤◌, ◌<◌, List, length, get_or}
use Rattle.laws.specs.Part.{part}
use Rattle.keys.specs.declared.stands.Spacing.{Spacing}

-- where key i begins: past i strides and the offset, and past the place that the list gives it
unfoldable pub start_of : List ℕ → Spacing → ℕ → ℕ
start_of places k i = i * k.stride + k.offset + get_or places i 0

unfoldable pub key_in : List ℕ → Spacing → List ℕ → ℕ → List ℕ
key_in places k s i = part (start_of places k i) k.size s

-- each of n keys lies within s
abbrev pub Inside : List ℕ → Spacing → List ℕ → ℕ → Type 0
Inside places k s n = (i : ℕ) → i < n → start_of places k i + k.size ≤ length s
