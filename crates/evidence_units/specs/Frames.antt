-- Signed evidence has the frame of a signed file: evidence of kind "2", where it is not empty.
use Rattle.std.specs.Prelude.{ℕ, ◌+◌, ◌<◌, Bool, cond, not, ◌||◌, List, ◌≡◌, eqb, length}
use Rattle.answers.specs.declared.told.Answer.{Answer}
use Rattle.answers.specs.Answers.{accepted, refused_at, first_told}
use Rattle.signed.specs.Shape.{Signed}
use Rattle.signed.specs.Checking.{is_signed}
use Rattle.evidence_units.specs.Units.{sort_at, evidence_at}

-- what is asked of evidence of a kind, and the test of it
abbrev pub SignedIf : ℕ → List ℕ → Type 0
SignedIf kind evidence = kind ≡ 0x32 → 0 < length evidence → Signed evidence

unfoldable pub frame_good : ℕ → List ℕ → Bool
frame_good kind evidence = not (eqb kind 0x32) || (eqb (length evidence) 0 || is_signed evidence)

-- 22 of the unit at place p, as that of record n
unfoldable pub frame_told : List ℕ → ℕ → ℕ → Answer
frame_told x p n = cond (frame_good (sort_at x p) (evidence_at x p)) accepted (refused_at 22 n 13 0x30303030)

-- at the first of n units that has not the frame
unfoldable pub frames_told : List ℕ → (ℕ → ℕ) → ℕ → Answer
frames_told x place n = first_told (λ i. frame_told x (place i) (i + 1)) n
