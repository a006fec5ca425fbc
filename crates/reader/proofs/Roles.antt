-- The laws of `role_of`.
-- Assumes nothing.
use Prim.Native.Nat.{ℕ, ◌+◌, ◌<◌}
use mathlib.Core.Path.{◌≡◌}
use native.Mathlib.Omega.{arith}
use borrow.Author.Tests.{eq-eqb, ne_eqb}
use Rattle.kinds.specs.declared.of_files.Role.TheVariants.{Header, Data, Trailer}
use Rattle.reader.specs.Judged.{role_of}

pub role-header : (count i : ℕ) → i ≡ 0 → role_of count i ≡ Header
unfolding role_of
role-header count i e = rw (eq-eqb i 0 e)

pub role-data : (count i : ℕ) → 0 < i → i + 1 < count → role_of count i ≡ Data
unfolding role_of
role-data count i p h = rw (ne_eqb i 0 (λ e. omega arith), ne_eqb (i + 1) count (λ e. omega arith))

pub role-trailer : (count i : ℕ) → 0 < i → i + 1 ≡ count → role_of count i ≡ Trailer
unfolding role_of
role-trailer count i p e = rw (ne_eqb i 0 (λ z. omega arith), eq-eqb (i + 1) count e)
