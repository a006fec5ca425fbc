-- What is handed out at a place.
use Rattle.std.specs.Prelude.{ℕ}
use Rattle.answers.specs.declared.told.Answer.{Answer}

-- nothing, because the file is refused; a data record: its number, its first byte in the file, its length; or the end
pub data Step : Type 0 where
  None : Step
  Record : (number start size : ℕ) → Step
  End : Step

-- the reader's answer, and what is handed out
pub record Walked : Type 0 where
  pub answer : Answer
  pub step : Step
