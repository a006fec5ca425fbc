-- Rows are small.
-- Assumes nothing.
use Prim.Native.Nat.{ℕ, ◌+◌, ◌*◌, ◌≤◌, ◌<◌}
use mathlib.Core.Path.{refl}
use native.Mathlib.Nat.{mul-le-mul}
use native.Mathlib.Omega.{arith}
use borrow.Author.Tests.{leb-true, ltb-true, ltb-false}
use lib.Dec.{leb, ltb}
use lib.ListN.{length, get_or, get_or-eq_default}
use Rattle.kinds.specs.declared.of_files.Kind.{Kind}
use Rattle.kinds.specs.declared.of_files.Role.{Role}
use Rattle.kinds.specs.Kinds.{fixed_for, fixed_of}
use Rattle.kinds.proofs.Forms.{of-form}
use Rattle.tables.specs.Rows.{blank}
use Rattle.tables.specs.Tables.{rows_of}
use Rattle.tables.proofs.Tiling.{row_inside}
use Rattle.laws.proofs.Bools.{either}
use mathlib.Core.Logic.{⊎_elim}
use Rattle.builder.proofs.Sizes.{size-most}

-- no row ends past a record
pub row-small : (k : Kind) (role : Role) (i : ℕ) → (get_or (rows_of k role) i blank).1 + (get_or (rows_of k role) i blank).2 < 1000
row-small k role i =
    ⊎_elim (λ t. omega (arith, row_inside k role i (ltb-true i (length (rows_of k role)) t), size-most k))
    (λ f. rw (get_or-eq_default (rows_of k role) blank {n = i} (ltb-false i (length (rows_of k role)) f)) (omega arith))
    (either (ltb i (length (rows_of k role))))

-- a million bodies take less than 2 ^ 28 bytes
pub body-fits : (k : Kind) (i : ℕ) → i < 1000000 → i * (fixed_of k).body ≤ 131000000
body-fits k i h =
    mul-le-mul {n₁ = i} {m₁ = (fixed_of k).body} {n₂ = 1000000} {m₂ = 131} (omega arith)
    (leb-true (fixed_of k).body 131 (of-form (λ f. leb (fixed_for f).body 131) refl k.form))
