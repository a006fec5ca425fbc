-- What is asked of evidence, as a test and as what is told.
-- Assumes nothing.
use Prim.Native.Nat.{ℕ, ◌+◌, ◌<◌}
use mathlib.Core.Bool.{true, not}
use mathlib.Core.List.{List}
use mathlib.Core.Path.{◌≡◌, refl, sym, ◌∙◌}
use mathlib.Core.Logic.{◌↔◌, ⊎_elim}
use native.Mathlib.Omega.{arith}
use borrow.Author.Tests.{eqb-true, eqb-false, eq-eqb, ne_eqb}
use lib.Dec.{eqb}
use lib.ListN.{length}
use Rattle.laws.proofs.Bools.{either, or_left, or_right}
use Rattle.answers.specs.Answers.{accepted, refused_at}
use Rattle.answers.proofs.Refusals.{tested, number_of, told_same, all_told, told-all}
use Rattle.signed.specs.Checking.{is_signed}
use Rattle.signed.proofs.Shaped.{shape}
use Rattle.evidence_units.specs.Units.{sort_at, evidence_at}
use Rattle.evidence_units.specs.Frames.{SignedIf, frame_good, frame_told, frames_told}

module _ (kind : ℕ) (evidence : List ℕ) where
  pub other-good : (kind ≡ 0x32 → ⊥) → frame_good kind evidence ≡ true
  unfolding frame_good
  other-good ne = rw (ne_eqb kind 0x32 ne)

  pub empty-good : length evidence ≡ 0 → frame_good kind evidence ≡ true
  unfolding frame_good
  empty-good e = or_right (not (eqb kind 0x32)) _ (or_left (eqb (length evidence) 0) (is_signed evidence) (eq-eqb (length evidence) 0 e))

  pub signed-good : kind ≡ 0x32 → (length evidence ≡ 0 → ⊥) → frame_good kind evidence ≡ is_signed evidence
  unfolding frame_good
  signed-good e ne = rw (eq-eqb kind 0x32 e, ne_eqb (length evidence) 0 ne)

  -- the test holds exactly where what is asked does
  pub frame-exact : (frame_good kind evidence ≡ true) ↔ SignedIf kind evidence
  frame-exact = (
    λ t e h. (shape evidence).0 (sym (signed-good e (λ z. absurd (omega arith))) ∙ t),
    λ s.
        ⊎_elim
        (λ k. ⊎_elim (λ z. empty-good (eqb-true (length evidence) 0 z)) (λ z. let ne = eqb-false (length evidence) 0 z in signed-good (eqb-true kind 0x32 k) ne ∙ (shape evidence).1 (s (eqb-true kind 0x32 k) (omega (arith, ne)))) (either (eqb (length evidence) 0)))
        (λ k. other-good (eqb-false kind 0x32 k))
        (either (eqb kind 0x32)),
  )

module _ (x : List ℕ) where
  -- one unit
  pub frame-good : (p n : ℕ) → (frame_told x p n).number ≡ 0 → SignedIf (sort_at x p) (evidence_at x p)
  unfolding frame_told
  frame-good p n e = (frame-exact (sort_at x p) (evidence_at x p)).0 (tested (frame_good (sort_at x p) (evidence_at x p)) _ (λ z. omega arith) e)

  pub good-frame : (p n : ℕ) → SignedIf (sort_at x p) (evidence_at x p) → frame_told x p n ≡ accepted
  unfolding frame_told
  good-frame p n s = rw ((frame-exact (sort_at x p) (evidence_at x p)).1 s)

  pub bad-frame : (p n : ℕ) → ((frame_told x p n).number ≡ 0 → ⊥) → frame_told x p n ≡ refused_at 22 n 13 0x30303030
  unfolding frame_told
  bad-frame p n ne = ⊎_elim (λ t. absurd (ne (rw t refl))) (λ f. rw f) (either (frame_good (sort_at x p) (evidence_at x p)))

  -- n units, at any places
  module _ (place : ℕ → ℕ) (n : ℕ) where
    pub frames-good : (frames_told x place n).number ≡ 0 → (i : ℕ) → i < n → SignedIf (sort_at x (place i)) (evidence_at x (place i))
    unfolding frames_told
    frames-good e i h = frame-good (place i) (i + 1) (all_told (λ i. frame_told x (place i) (i + 1)) n e i h)

    pub good-frames : ((i : ℕ) → i < n → SignedIf (sort_at x (place i)) (evidence_at x (place i))) → frames_told x place n ≡ accepted
    unfolding frames_told
    good-frames s = told-all (λ i. frame_told x (place i) (i + 1)) n (λ i h. number_of (good-frame (place i) (i + 1) (s i h)))

    -- the same places, the same told
    pub frames-same : (other : ℕ → ℕ) → ((i : ℕ) → i < n → place i ≡ other i) → frames_told x place n ≡ frames_told x other n
    unfolding frames_told
    frames-same other e = told_same (λ i. frame_told x (place i) (i + 1)) (λ i. frame_told x (other i) (i + 1)) n (λ i h. rw (e i h))
