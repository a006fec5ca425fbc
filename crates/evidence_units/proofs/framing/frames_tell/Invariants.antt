-- No unit so far is refused.
use Prim.Native.Nat.{ℕ, ◌+◌}
use lib.ListN.{get_or}
use Rattle.answers.proofs.Refusals.{So-far}
use Rattle.evidence_units.specs.Frames.{frame_told}
use Rattle.evidence_units.proofs.framing.frames_tell.Given as goal

abbrev pub invariant-loop-i : goal.invariant-loop-i
invariant-loop-i l = So-far (λ (j : ℕ). frame_told l.x (get_or l.places j 0 + l.offset) (j + 1)) l.i
