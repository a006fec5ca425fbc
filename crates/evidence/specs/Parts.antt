-- Where an evidence part may lie.
use Rattle.std.specs.Prelude.{ℕ, ◌+◌, ◌-◌, ◌*◌, ◌≤◌, ◌<◌, Bool, List, ◌≡◌, length}
use Rattle.answers.specs.Answers.{accepted}
use Rattle.evidence.specs.Blocks.{block, front, start_of, records_in, evidence_start, evidence_length}
use Rattle.evidence.specs.Reading.{read_of}

-- byte x is evidence of record i + 1
pub record Covers (s : List ℕ) (i x : ℕ) : Type 0 where
  pub from : evidence_start s i ≤ x
  pub below : x < evidence_start s i + evidence_length s i

-- the evidence of record i + 1 lies behind its items 1 to 12 and within its blocks, and these within the data blocks of the file
pub record Inside (s : List ℕ) (i : ℕ) : Type 0 where
  pub header : block ≤ start_of s i * block
  pub items : start_of s i * block + front ≤ evidence_start s i
  pub own : evidence_start s i + evidence_length s i ≤ start_of s (i + 1) * block
  pub file : start_of s (i + 1) * block + block ≤ length s

-- what a part that is shown for record k, from byte `start` on and `size` long, says of the file
pub record Shows (exempt : Bool) (s : List ℕ) (k start size : ℕ) : Type 0 where
  pub good : read_of exempt s ≡ accepted
  pub first : 1 ≤ k
  pub last : k ≤ records_in s
  pub from : start ≡ evidence_start s (k - 1)
  pub long : size ≡ evidence_length s (k - 1)
  pub inside : Inside s (k - 1)
