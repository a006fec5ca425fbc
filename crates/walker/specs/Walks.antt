-- The walk on a plain slice and a place k: record k + 1, or the end when k is n or more; where the reader refuses, its answer.
use Rattle.std.specs.Prelude.{ℕ, ◌+◌, ◌*◌, ◌≡◌, cond, List, [], ◌∷◌, ltb, Option, Some, None, Result, Ok, Err, IfOk}
use Rattle.kinds.specs.declared.of_files.Kind.{Kind}
use Rattle.kinds.specs.Kinds.{fixed_of, kind_of}
use Rattle.answers.specs.declared.told.Answer.{Answer}
use Rattle.answers.specs.declared.refusing.Refusal.{Refusal}
use Rattle.answers.specs.Answers.{accepted, refuses}
use Rattle.answers.specs.Refusing.{told_by}
use Rattle.records.specs.Records.{data_of}
use Rattle.reader.specs.Reading.{read_of}
use Rattle.walker.specs.declared.walking.Record.{Record}
use Rattle.walker.specs.Steps.{Step, Walked}

-- what a result says that is the record, if there is one more
abbrev pub step_by : Option Record → Step
step_by (Some r) = Step.Record r.number r.start r.size
step_by None = Step.End

abbrev pub walked : Answer → Step → Walked
walked answer step = record { answer = answer; step = step }

abbrev pub walked_by : Result (Option Record) Refusal → Walked
walked_by (Ok r) = walked accepted (step_by r)
walked_by (Err r) = walked (told_by r) Step.None

-- a kind, where there is one, is the one that was named
abbrev pub named_by : ℕ → Result Kind Refusal → Type 0
named_by kind known = IfOk known (λ k. kind_of kind ≡ Some k)

-- record number i of a file of records of one size
abbrev pub record_step : ℕ → ℕ → Step
record_step size i = Step.Record i (i * size) size

-- place k of n data records of one size
unfoldable pub step_in : ℕ → ℕ → ℕ → Step
step_in size n k = cond (ltb k n) (record_step size (k + 1)) Step.End

-- place k of a file of a kind
unfoldable pub step_of : Kind → List ℕ → ℕ → Step
step_of kind s k = step_in (fixed_of kind).size (data_of kind s) k

-- nothing is handed out of a file of an unknown kind
abbrev pub step_named : Option Kind → List ℕ → ℕ → Step
step_named (Some kind) s k = step_of kind s k
step_named None s k = Step.None

-- what is handed out once the reader has answered: nothing where it refuses
unfoldable pub hand_of : List ℕ → ℕ → ℕ → Answer → Walked
hand_of s k kind answer = walked answer (cond (refuses answer) Step.None (step_named (kind_of kind) s k))

-- the file is read, and place k is handed out
unfoldable pub walk_of : ℕ → List ℕ → ℕ → Walked
walk_of kind s k = hand_of s k kind (read_of kind s)

-- the place after a step: past a record, else where it was
abbrev pub place_after : Step → ℕ → ℕ
place_after Step.None k = k
place_after (Step.Record i start size) k = i
place_after Step.End k = k

-- a step as three numbers: the case (0 nothing, 1 a record, 2 the end), the record's first byte in the file, its length
abbrev pub three_of : Step → List ℕ
three_of Step.None = 0 ∷ 0 ∷ 0 ∷ []
three_of (Step.Record i start size) = 1 ∷ start ∷ size ∷ []
three_of Step.End = 2 ∷ 0 ∷ 0 ∷ []
