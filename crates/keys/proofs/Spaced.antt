-- The two plain ways to stand: at a fixed distance, where the list gives no place, and where a list says, with no stride.
-- Assumes nothing.
use Prim.Native.Nat.{ℕ, ◌+◌, ◌*◌, ◌≤◌, ◌<◌}
use mathlib.Core.List.{List, [], ◌∷◌}
use mathlib.Core.Path.{◌≡◌, refl, ◌∙◌, ap}
use native.Mathlib.Omega.{arith}
use lib.Dec.{ltb}
use lib.ListN.{length, get_or}
use Rattle.laws.specs.Least.{least, further, some, none}
use Rattle.laws.specs.Part.{part, same, differ}
use Rattle.laws.proofs.Leasts.{least-same}
use Rattle.keys.specs.declared.stands.Spacing.{Spacing}
use Rattle.keys.specs.declared.keyed.Keys.{Keys}
use Rattle.keys.specs.Keys.{shares_in, repeats_in, has_key_in, place_in}
use Rattle.keys.specs.Stands.{start_of, key_in, Inside}
use Rattle.keys.specs.Keyed.{key_of}

-- keys by what they are made of
pub keys-are :
    (k : Keys) (places : List ℕ) (spacing : Spacing) (s : List ℕ) → k.places.now ≡ places → k.spacing ≡ spacing → k.s.now ≡ s →
    key_of k ≡ key_in places spacing s
keys-are k places spacing s p d e =
    ap (λ (x : List ℕ). key_in x k.spacing k.s.now) p ∙ (ap (λ (x : Spacing). key_in places x k.s.now) d ∙ ap (key_in places spacing) e)

pub spaced-start : (k : Spacing) (i : ℕ) → start_of [] k i ≡ i * k.stride + k.offset
unfolding start_of
spaced-start k i = omega arith

pub spaced-key : (k : Spacing) (s : List ℕ) (i : ℕ) → key_in [] k s i ≡ part (i * k.stride + k.offset) k.size s
unfolding key_in
spaced-key k s i = ap (λ (a : ℕ). part a k.size s) (spaced-start k i)

-- keys anywhere: so many bytes past the place that the list gives
abbrev pub anywhere : ℕ → ℕ → Spacing
anywhere offset size = record { stride = 0; offset = offset; size = size }

pub listed_start : (places : List ℕ) (offset size i : ℕ) → start_of places (anywhere offset size) i ≡ get_or places i 0 + offset
unfolding start_of
listed_start places offset size i = omega arith

pub listed-key : (places : List ℕ) (offset size : ℕ) (s : List ℕ) (i : ℕ) → key_in places (anywhere offset size) s i ≡ part (get_or places i 0 + offset) size s
unfolding key_in
listed-key places offset size s i = ap (λ (a : ℕ). part a size s) (listed_start places offset size i)

-- a list that holds the places of n of them
module _ (places s : List ℕ) (offset size n : ℕ) (at : ℕ → ℕ) (holds : (i : ℕ) → i < n → get_or places i 0 ≡ at i) where
  pub listed_at : (i : ℕ) → i < n → key_in places (anywhere offset size) s i ≡ part (at i + offset) size s
  listed_at i h = listed-key places offset size s i ∙ rw (holds i h)

  pub listed-inside : ((i : ℕ) → i < n → at i + offset + size ≤ length s) → Inside places (anywhere offset size) s n
  listed-inside inside i h = rw (listed_start places offset size i, holds i h) (inside i h)

-- the first that repeats goes by what the keys are
repeats-same : (f g : ℕ → List ℕ) (n : ℕ) → ((i : ℕ) → i < n → f i ≡ g i) → (i : ℕ) → i < n → repeats_in f i ≡ repeats_in g i
unfolding repeats_in shares_in some
repeats-same f g n e i h = ap (λ (m : ℕ). ltb m i) (least-same _ _ i (λ j l. rw (e i h, e j (omega arith))))

pub first-same : (f g : ℕ → List ℕ) (n : ℕ) → ((i : ℕ) → i < n → f i ≡ g i) → least (repeats_in f) n ≡ least (repeats_in g) n
first-same f g n e = least-same _ _ n (repeats-same f g n e)

-- records of 4, 3 and 2 bytes, each with its key in front: the third key is the first one, and the second stands at 1
abbrev pub sample : List ℕ
sample = 65 ∷ 0 ∷ 7 ∷ 7 ∷ 66 ∷ 0 ∷ 7 ∷ 65 ∷ 0 ∷ []

pub third-repeats : least (repeats_in (key_in (0 ∷ 4 ∷ 7 ∷ []) (anywhere 0 1) sample)) 3 ≡ 2
unfolding least further some none repeats_in shares_in same differ key_in start_of part
third-repeats = refl

pub second-found : place_in (key_in (0 ∷ 4 ∷ 7 ∷ []) (anywhere 0 1) sample) 3 (66 ∷ []) ≡ 1
unfolding least further some none place_in has_key_in same differ key_in start_of part
second-found = refl
