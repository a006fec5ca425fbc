-- What is handed out at a place, by the cases of the reader's answer and of the place.
-- Assumes nothing.
use Prim.Native.Nat.{ℕ, ◌+◌, ◌≤◌, ◌<◌}
use mathlib.Core.List.{List}
use mathlib.Core.Path.{◌≡◌}
use borrow.Author.Tests.{lt-ltb, le-ltb}
use Rattle.kinds.specs.declared.of_files.Kind.{Kind}
use Rattle.kinds.specs.Kinds.{fixed_of, kind_of}
use Rattle.answers.specs.declared.told.Answer.{Answer}
use Rattle.answers.proofs.Refusals.{refuses-not, refuses-is}
use Rattle.records.specs.Records.{data_of}
use Rattle.walker.specs.Steps.{None, End}
use Rattle.walker.specs.Walks.{record_step, step_in, step_of, step_named, walked, hand_of}

module _ (kind : Kind) (s : List ℕ) (k : ℕ) where
  pub step-record : k < data_of kind s → step_of kind s k ≡ record_step (fixed_of kind).size (k + 1)
  unfolding step_of step_in
  step-record h = rw (lt-ltb k (data_of kind s) h)

  pub step_end : data_of kind s ≤ k → step_of kind s k ≡ End
  unfolding step_of step_in
  step_end h = rw (le-ltb k (data_of kind s) h)

module _ (s : List ℕ) (k kind : ℕ) (answer : Answer) where
  pub hand-refused : (answer.number ≡ 0 → ⊥) → hand_of s k kind answer ≡ walked answer None
  unfolding hand_of
  hand-refused ne = rw (refuses-is answer ne)

  pub hand-good : answer.number ≡ 0 → hand_of s k kind answer ≡ walked answer (step_named (kind_of kind) s k)
  unfolding hand_of
  hand-good e = rw (refuses-not answer e)
