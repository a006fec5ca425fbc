-- What is given for items 6 and 7 lies inside the header.
-- Assumes nothing.
use Prim.Native.Nat.{◌+◌, ◌≤◌}
use mathlib.Core.Path.{refl}
use borrow.Author.Tests.{leb-true}
use lib.Dec.{leb}
use Rattle.kinds.specs.declared.of_files.Kind.{Kind}
use Rattle.kinds.specs.Kinds.{fixed_for, fixed_of}
use Rattle.kinds.proofs.Forms.{of-form}

pub item6-inside : (k : Kind) → 33 + (fixed_of k).item6 ≤ (fixed_of k).size
item6-inside k = leb-true _ (fixed_of k).size (of-form (λ f. leb (33 + (fixed_for f).item6) (fixed_for f).size) refl k.form)

pub item7-inside : (k : Kind) → 40 + (fixed_of k).item7 ≤ (fixed_of k).size
item7-inside k = leb-true _ (fixed_of k).size (of-form (λ f. leb (40 + (fixed_for f).item7) (fixed_for f).size) refl k.form)
