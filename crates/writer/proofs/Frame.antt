-- A frame of three records: the header in front, and what is stored behind it.
-- Assumes nothing.
use Prim.Native.Nat.{ℕ, ◌+◌, ◌*◌, ◌≤◌}
use mathlib.Core.List.{List, ◌++◌, append_assoc}
use mathlib.Core.Path.{◌≡◌, ◌∙◌, ap}
use native.Mathlib.Nat.{le_of_eq, zero-mul, le-div_iff_mul-le}
use native.Mathlib.Omega.{arith}
use lib.ListN.{length, take, drop, length-append}
use lib.Seq.{take_all, length-take-le}
use Rattle.laws.specs.Part.{part}
use Rattle.laws.proofs.Parts.{part-take}
use Rattle.kinds.specs.declared.of_files.Kind.{Kind}
use Rattle.kinds.specs.Kinds.{fixed_of}
use Rattle.records.specs.Records.{record_at, record_of, count_of}
use Rattle.records.proofs.Places.{size-pos}
use Rattle.laws.specs.Stored.{stored}
use Rattle.builder.proofs.Sizes.{size-most}
use Rattle.laws.proofs.Pieces.{part-within, part-behind}

-- there is room for three
pub frame-count : (k : Kind) (f : List ℕ) → 450 ≤ length f → 3 ≤ count_of k f
unfolding count_of
frame-count k f h = (le-div_iff_mul-le (size-pos k)).1 (omega (arith, size-most k))

-- the record in front is the first bytes
pub front-take : (k : Kind) (f : List ℕ) → take (fixed_of k).size f ≡ record_of k f 0
unfolding record_at part
front-take k f = rw (zero-mul (fixed_of k).size)

-- what is stored at the place of record m is record m
pub stored_there :
    (k : Kind) (f rec : List ℕ) (m at : ℕ) → at ≡ m * (fixed_of k).size → at ≤ length f → length rec ≡ (fixed_of k).size → record_of k (stored at rec f) m ≡ rec
unfolding record_at part
stored_there k f rec m at e h long =
    rw (← e)
    (part-within (take at f ++ rec) (drop (at + length rec) f) at w (rw (length-append (take at f) rec, length-take-le at f h) (le_of_eq (rw long))) ∙
    (ap (λ (a : ℕ). part a w (take at f ++ rec)) start ∙ (part-behind (take at f) rec at 0 w (length-take-le at f h) ∙ take_all w rec (le_of_eq long))))
  where
    w : ℕ
    w = (fixed_of k).size

    start : at ≡ at + 0
    start = omega arith

-- and the record in front stays
pub stored-front :
    (k : Kind) (f rec : List ℕ) (at : ℕ) → (fixed_of k).size ≤ at → at ≤ length f → record_of k (stored at rec f) 0 ≡ record_of k f 0
unfolding record_at
stored-front k f rec at b h =
    rw (zero-mul (fixed_of k).size, append_assoc (take at f) rec (drop (at + length rec) f))
    (part-within (take at f) (rec ++ drop (at + length rec) f) 0 (fixed_of k).size (rw (length-take-le at f h) (omega arith)) ∙
    part-take 0 (fixed_of k).size at f (omega arith) h)

-- a record that is built from the one in front, and stored behind it: the one in front stays, and the record is there
pub put-behind :
    (k : Kind) (f new : List ℕ) (rec : List ℕ → List ℕ) (m at : ℕ) → new ≡ stored at (rec (take (fixed_of k).size f)) f →
    at ≡ m * (fixed_of k).size → (fixed_of k).size ≤ at → at ≤ length f → ((header : List ℕ) → length (rec header) ≡ (fixed_of k).size) →
    (record_of k new 0 ≡ record_of k f 0) × (record_of k new m ≡ rec (record_of k f 0))
put-behind k f new rec m at put e b h long =
    let header = take (fixed_of k).size f in
    (rw put (stored-front k f (rec header) at b h), rw put (stored_there k f (rec header) m at e h (long header)) ∙ ap rec (front-take k f))
