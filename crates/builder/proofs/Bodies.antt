-- What stands behind items 1 to 3 of a built record is what was given.
-- Assumes nothing.
use Prim.Native.Nat.{ℕ, ◌+◌, ◌-◌, ◌*◌, ◌≤◌, ◌<◌}
use mathlib.Core.List.{List}
use mathlib.Core.Path.{◌≡◌, sym, ◌∙◌, ap}
use native.Mathlib.Nat.{div-mul-le_self}
use native.Mathlib.Omega.{arith}
use borrow.Author.Tests.{le-ltb}
use lib.ListN.{length, get_or}
use lib.Seq.{ext_get_or}
use Rattle.laws.specs.Part.{part}
use Rattle.laws.proofs.Joins.{size_below}
use Rattle.laws.proofs.Parts.{part_length, part_at}
use Rattle.laws.proofs.Tabs.{tab-at}
use Rattle.kinds.specs.declared.of_files.Kind.{Kind}
use Rattle.kinds.specs.Kinds.{fixed_of}
use Rattle.builder.specs.Records.{body_count, data_byte, data_built}
use Rattle.builder.proofs.Lengths.{data-length}
use Rattle.builder.proofs.Sizes.{body-size}

-- body i lies inside the bodies
pub body-inside : (k : Kind) (bodies : List ℕ) (i : ℕ) → i < body_count k bodies → i * (fixed_of k).body + (fixed_of k).body ≤ length bodies
unfolding body_count
body-inside k bodies i l =
    omega (arith, size_below i (body_count k bodies) (fixed_of k).body l, div-mul-le_self (length bodies) (fixed_of k).body)

-- any part of record i + 1 past items 1 to 3 is the part of body i that stands there
pub built-part :
    (k : Kind) (header bodies : List ℕ) (i a m : ℕ) → i < body_count k bodies → 19 ≤ a → a + m ≤ (fixed_of k).size →
    part a m (data_built k header bodies i) ≡ part (i * (fixed_of k).body + (a - 19)) m bodies
unfolding data_built data_byte
built-part k header bodies i a m l f inside = ext_get_or 0 (part a m rec) (part (i * b + (a - 19)) m bodies) (long ∙ sym given) same
  where
    b : ℕ
    b = (fixed_of k).body

    rec : List ℕ
    rec = data_built k header bodies i

    long : length (part a m rec) ≡ m
    long = part_length a m rec (rw (data-length k header bodies i) inside)

    given : length (part (i * b + (a - 19)) m bodies) ≡ m
    given = part_length (i * b + (a - 19)) m bodies (omega (arith, body-inside k bodies i l, body-size k))

    same : (d : ℕ) → d < length (part a m rec) → get_or (part a m rec) d 0 ≡ get_or (part (i * b + (a - 19)) m bodies) d 0
    same d h =
        let s : d < m = omega (arith, long) in
        rw (
          part_at a m rec d s,
          part_at (i * b + (a - 19)) m bodies d s,
          tab-at (data_byte k header bodies i) (fixed_of k).size (a + d) (omega arith),
          le-ltb (a + d) 19 (omega arith),
        ) (ap (λ (x : ℕ). get_or bodies x 0) (omega arith))
