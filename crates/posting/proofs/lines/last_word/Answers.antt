-- By the maker.
use Rattle.posting.specs.Lines.{none_end, bank_end, centre_end}
use mathlib.Core.Path.{refl}
use Rattle.posting.proofs.lines.last_word.Goals as goal

pub returns-in-None-clause-value : goal.returns-in-None-clause-value
unfolding none_end
returns-in-None-clause-value c = rw c.in-None.is refl

pub returns-in-Bank-clause-value : goal.returns-in-Bank-clause-value
unfolding bank_end
returns-in-Bank-clause-value c = rw c.in-Bank.is refl

pub returns-in-Centre-clause-value : goal.returns-in-Centre-clause-value
unfolding centre_end
returns-in-Centre-clause-value c = rw c.in-Centre.is refl
