-- A walker: what it hands out, and where it stands after that.
use Rattle.std.specs.Prelude.{ℕ, zero, suc, ◌≡◌, List, Result, Ok, Err}
use Rattle.std.specs.Borrow.{Bor}
use Rattle.kinds.specs.declared.of_files.Kind.{Kind}
use Rattle.answers.specs.declared.refusing.Refusal.{Refusal}
use Rattle.answers.specs.Answers.{accepted}
use Rattle.answers.specs.Refusing.{told_by, answer_of}
use Rattle.reader.specs.Reading.{read_of}
use Rattle.walker.specs.declared.walker.Walker.{Walker}
use Rattle.walker.specs.Steps.{Step, Walked}
use Rattle.walker.specs.Walks.{walked, named_by, step_of, place_after}

-- opened on a lent file: at place 0, with the reader's answer
pub record open_on (kind : ℕ) (lent : Bor (List ℕ)) (w : Walker) : Type 0 where
  pub file : w.file ≡ lent
  pub place : w.place ≡ 0
  pub told : answer_of w.kind ≡ read_of kind lent.now
  pub named : named_by kind w.kind

-- what is handed out at a place of a file that the reader has answered
abbrev pub handed : Result Kind Refusal → List ℕ → ℕ → Walked
handed (Ok kind) s k = walked accepted (step_of kind s k)
handed (Err r) s k = walked (told_by r) Step.None

-- what a walker hands out
abbrev pub handed_by : Walker → Walked
handed_by w = handed w.kind w.file.now w.place

-- the walker after that: past a record, else where it was
abbrev pub moved_on : Walker → Walker
moved_on w = record { file = w.file; place = place_after (handed_by w).step w.place; kind = w.kind }

-- the walker after i steps
unfoldable pub stepped : Walker → ℕ → Walker
stepped w zero = w
stepped w (suc i) = moved_on (stepped w i)
