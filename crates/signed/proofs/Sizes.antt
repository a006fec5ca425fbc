-- A size that is there or not, as an Option.
-- Assumes nothing.
use Rattle.std.proofs.Common.{ℕ, ◌&&◌, eqb, ltb, zero, suc, ◌<◌, ◌≡◌, refl, arith}
use Rattle.std.specs.Prelude.{Some, None}
use Rattle.std.specs.Option.{option_eq}
use borrow.Author.Tests.{lt-ltb}
use Rattle.signed.specs.Checking.{some_size}

pub size_there : (n : ℕ) → 0 < n → some_size n ≡ Some n
size_there zero h = absurd (omega arith)
size_there (suc n) h = refl

pub size_not : (n : ℕ) → n ≡ 0 → some_size n ≡ None
size_not zero h = refl
size_not (suc n) h = absurd (omega arith)

pub there_size : (n k : ℕ) → some_size n ≡ Some k → (0 < n) × (n ≡ k)
there_size zero k e = cc
there_size (suc n) k e = (omega arith, cc)

pub not_size : (n : ℕ) → some_size n ≡ None → n ≡ 0
not_size zero e = refl
not_size (suc n) e = cc

-- the size is this one
pub same_size : (n m : ℕ) → option_eq eqb (some_size n) (Some m) ≡ (ltb 0 n && eqb n m)
same_size zero m = refl
same_size (suc n) m = rw (lt-ltb 0 (suc n) (omega arith))
