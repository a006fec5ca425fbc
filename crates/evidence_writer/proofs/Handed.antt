-- What is handed out of a file and what is written: a part, with the 74 bytes before it, is what the writer is given.
-- Assumes nothing.
use Prim.Native.Nat.{ℕ, ◌+◌, ◌-◌, ◌*◌}
use mathlib.Core.Bool.{Bool}
use mathlib.Core.List.{List}
use mathlib.Core.Path.{◌≡◌, ap}
use native.Mathlib.Omega.{arith}
use Rattle.laws.specs.Part.{part}
use Rattle.evidence.specs.Blocks.{block, start_of, evidence_length}
use Rattle.evidence.specs.Judged.{byte_of}
use Rattle.evidence.specs.Parts.{Shows}
use Rattle.evidence_units.specs.Units.{items}
use Rattle.evidence_writer.specs.Apart.{unit_in}

-- *Handed out*: items 6 to 12 stand right before the evidence that is shown
pub shown-unit : (exempt : Bool) (s : List ℕ) (k start size : ℕ) → Shows exempt s k start size → unit_in s (k - 1) ≡ part (start - items) (items + size) s
unfolding unit_in byte_of
shown-unit exempt s k start size h =
    let e : start_of s (k - 1) * block + 45 ≡ start - items = omega (arith, h.from) in
    rw h.long (ap (λ (p : ℕ). part p (items + evidence_length s (k - 1)) s) e)
