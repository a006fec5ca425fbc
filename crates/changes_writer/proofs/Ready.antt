-- What is known once the answers can stand.
-- Assumes nothing.
use Prim.Native.Nat.{ℕ, ◌+◌, ◌*◌}
use mathlib.Core.List.{List}
use mathlib.Core.Path.{◌≡◌}
use native.Mathlib.Omega.{arith}
use lib.ListN.{length}
use Rattle.changes.specs.Deciding.{decided}
use Rattle.changes.proofs.Told.{decided-stages, decided-many}
use Rattle.changes_writer.specs.Building.{refused_to, file_for, Answered}
use Rattle.changes_writer.proofs.Built.{file-length}

module _ (s answers : List ℕ) (z : (decided s answers).number ≡ 0) where
  pub decided-ready : Answered s answers
  decided-ready = record { meets = (decided-stages s answers z).meets; many = decided-many s answers z }

  -- 120 bytes for each refused record, and for the header and the trailer
  pub size_is : (m : ℕ) → m ≡ refused_to answers (length answers) → (m + 2) * 120 ≡ length (file_for s answers)
  size_is m e = omega (arith, e, file-length s answers decided-ready)
