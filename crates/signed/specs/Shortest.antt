-- What the definite form of a length is, and that no other is shorter: the words behind `Length`.
use Rattle.std.specs.Prelude.{ℕ, ◌+◌, ◌≤◌, ◌<◌, List, [], ◌∷◌, ◌≡◌, length, get_or}
use Rattle.signed.specs.Shape.{number_of}

-- every element is a byte
abbrev pub Bytes : List ℕ → Type 0
Bytes s = (i : ℕ) → i < length s → get_or s i 0 < 256

-- bytes that say a length in a definite form, of one byte or of several, with or without zeros in front
pub data Definite (field : List ℕ) (n : ℕ) : Type 0 where
  one : field ≡ n ∷ [] → n < 128 → Definite field n
  several : (digits : List ℕ) → field ≡ (128 + length digits) ∷ digits → 0 < length digits → length digits < 127 → number_of digits ≡ n →
      Definite field n

-- and no bytes that say it so are fewer
pub record Shortest (field : List ℕ) (n : ℕ) : Type 0 where
  pub definite : Definite field n
  pub least : (other : List ℕ) → Bytes other → Definite other n → length field ≤ length other
