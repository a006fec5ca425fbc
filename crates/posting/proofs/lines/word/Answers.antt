-- By the outcome.
use Rattle.posting.specs.Lines.{whole_word, part_word, refused_word}
use mathlib.Core.Path.{refl}
use Rattle.posting.proofs.lines.word.Goals as goal

pub returns-in-Whole-clause-value : goal.returns-in-Whole-clause-value
unfolding whole_word
returns-in-Whole-clause-value c = rw c.in-Whole.is refl

pub returns-in-Part-clause-value : goal.returns-in-Part-clause-value
unfolding part_word
returns-in-Part-clause-value c = rw c.in-Part.is refl

pub returns-in-Refused-clause-value : goal.returns-in-Refused-clause-value
unfolding refused_word
returns-in-Refused-clause-value c = rw c.in-Refused.is refl
