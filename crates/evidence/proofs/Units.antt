-- The unit of a record, where the walk meets it.
-- Assumes nothing.
use Prim.Native.Nat.{ℕ, ◌+◌, ◌*◌}
use mathlib.Core.List.{List}
use mathlib.Core.Path.{◌≡◌, refl}
use native.Mathlib.Omega.{arith}
use Rattle.evidence_units.specs.Units.{said_at, sort_at, evidence_at}
use Rattle.evidence.specs.Blocks.{block, length_at, kind_at, start_of, evidence_length, evidence_in}
use Rattle.evidence.specs.Judged.{byte_of, unit_byte}

module _ (s : List ℕ) (i : ℕ) where
  unit-place : (n m : ℕ) → 45 + n ≡ m → unit_byte s i + n ≡ start_of s i * block + m
  unfolding unit_byte byte_of
  unit-place n m e = omega arith

  pub unit-said : said_at s (unit_byte s i) ≡ evidence_length s i
  unfolding said_at length_at
  unit-said = rw (unit-place 67 112 refl)

  pub unit-kind : sort_at s (unit_byte s i) ≡ kind_at s (start_of s i)
  unfolding sort_at kind_at
  unit-kind = rw (unit-place 61 106 refl)

  pub unit-evidence : evidence_at s (unit_byte s i) ≡ evidence_in s i
  unfolding evidence_at evidence_in
  unit-evidence = rw (unit-place 74 119 refl, unit-said)
