-- One stage of a comparison after the other, and what each knows of the files that are accepted.
-- Assumes nothing.
use Prim.Native.Nat.{ℕ, ◌≤◌}
use mathlib.Core.Bool.{Bool}
use mathlib.Core.List.{List}
use mathlib.Core.Path.{◌≡◌, ◌∙◌}
use native.Mathlib.Omega.{arith}
use lib.ListN.{length}
use Rattle.answers.specs.Answers.{first_told, ◌then◌, on_side}
use Rattle.answers.proofs.Refusals.{then-first, then-second}
use Rattle.kinds.specs.Kinds.{EB13}
use Rattle.records.specs.Records.{data_of}
use Rattle.records.proofs.Places.{record-inside}
use Rattle.reader.specs.Reading.{read_as}
use Rattle.reader.proofs.Exact.{accepted-meets}
use Rattle.evidence.specs.Blocks.{records_in}
use Rattle.evidence.specs.Reading.{read_of}
use Rattle.evidence.proofs.Walks.{block_inside}
use Rattle.evidence.proofs.Looked.{read-good}
use Rattle.evidence.proofs.Stages.{size-good}
use Rattle.consent.specs.Comparing.{headers_told, lacks_told, foreign_told, compare_of}

module _ (exempt : Bool) (e s : List ℕ) where
  pub by-enrolments : ((read_as EB13 e).number ≡ 0 → ⊥) → compare_of exempt e s ≡ on_side 1 (read_as EB13 e)
  unfolding compare_of
  by-enrolments ne = then-first (on_side 1 (read_as EB13 e)) _ ne

  module _ (a : (read_as EB13 e).number ≡ 0) where
    pub header-there : 120 ≤ length e
    header-there = omega (arith, record-inside EB13 e 0 (omega (arith, (accepted-meets EB13 e a).lengths.fewest)))

    pub by-evidence : ((read_of exempt s).number ≡ 0 → ⊥) → compare_of exempt e s ≡ on_side 2 (read_of exempt s)
    unfolding compare_of
    by-evidence ne = then-second (on_side 1 (read_as EB13 e)) _ a ∙ then-first (on_side 2 (read_of exempt s)) _ ne

    module _ (b : (read_of exempt s).number ≡ 0) where
      pub block-there : 1024 ≤ length s
      block-there = omega (arith, block_inside s 0 (omega (arith, (size-good s (read-good exempt s b).0).fewest)))

      pub by-headers : ((headers_told e s).number ≡ 0 → ⊥) → compare_of exempt e s ≡ headers_told e s
      unfolding compare_of
      by-headers ne =
          then-second (on_side 1 (read_as EB13 e)) _ a ∙ (then-second (on_side 2 (read_of exempt s)) _ b ∙ then-first (headers_told e s) _ ne)

      pub by-records :
          (headers_told e s).number ≡ 0 →
          compare_of exempt e s ≡ (first_told (lacks_told e s) (data_of EB13 e) then first_told (foreign_told e s) (records_in s))
      unfolding compare_of
      by-records h =
          then-second (on_side 1 (read_as EB13 e)) _ a ∙ (then-second (on_side 2 (read_of exempt s)) _ b ∙ then-second (headers_told e s) _ h)
