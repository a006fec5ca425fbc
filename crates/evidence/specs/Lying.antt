-- Where the evidence of a record lies.
use Rattle.std.specs.Prelude.{ℕ, ◌-◌, Option, Result, Bool, cond, List}
use Rattle.answers.specs.declared.told.Answer.{Answer}
use Rattle.answers.specs.declared.refusing.Refusal.{Refusal}
use Rattle.answers.specs.declared.lying.Part.{Part}
use Rattle.answers.specs.Answers.{refuses}
use Rattle.answers.specs.Refusing.{answer_of}
use Rattle.answers.specs.Lying.{Lies, Refused, From, Nowhere, lies_by, is_one}
use Rattle.evidence.specs.Blocks.{evidence_start, evidence_length, records_in}
use Rattle.evidence.specs.Reading.{read_of}

-- what reading says, and where the evidence lies
pub record Shown : Type 0 where
  pub answer : Answer
  pub lies : Lies

abbrev pub shown_by : Result (Option Part) Refusal → Shown
shown_by r = record { answer = answer_of r; lies = lies_by r }

-- the evidence of record k of a file that is accepted
unfoldable pub lies_in : List ℕ → ℕ → Lies
lies_in s k = cond (is_one k (records_in s)) (From (evidence_start s (k - 1)) (evidence_length s (k - 1))) Nowhere

unfoldable pub part_of : Bool → List ℕ → ℕ → Shown
part_of exempt s k = record { answer = read_of exempt s; lies = cond (refuses (read_of exempt s)) Refused (lies_in s k) }
