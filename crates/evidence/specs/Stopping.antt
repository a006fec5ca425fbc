-- What is told of a file, and how many records are good before the first that is refused.
use Rattle.std.specs.Prelude.{ℕ, Result, Ok, Err}
use Rattle.answers.specs.declared.told.Answer.{Answer}
use Rattle.answers.specs.declared.refusing.Refusal.{Refusal}
use Rattle.answers.specs.Answers.{accepted}
use Rattle.answers.specs.Refusing.{told_by}
use Rattle.evidence.specs.declared.stopping.Stopped.{Stopped}

abbrev pub stopped_at : Refusal → ℕ → Stopped
stopped_at refusal good = record { refusal = refusal; good = good }

pub record Looked : Type 0 where
  pub answer : Answer
  pub count : ℕ

abbrev pub looked : Answer → ℕ → Looked
looked answer count = record { answer = answer; count = count }

-- what a result says that is how many records there are
abbrev pub looked_by : Result ℕ Stopped → Looked
looked_by (Ok n) = looked accepted n
looked_by (Err s) = looked (told_by s.refusal) s.good
