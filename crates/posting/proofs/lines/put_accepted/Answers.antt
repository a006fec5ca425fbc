-- One piece after the other.
use Rattle.posting.specs.Lines.{accepted_word, accepted_line}
use mathlib.Core.List.{append_assoc}
use Rattle.posting.proofs.lines.put_accepted.Goals as goal

pub returns-clause-text : goal.returns-clause-text
unfolding accepted_line accepted_word
returns-clause-text c =
    rw (
      c.put_number-4.ensures.text,
      c.put_number-3.ensures.text,
      c.put_number-2.ensures.text,
      c.put_number.ensures.text,
      c.put.ensures,
    )
    (simp append_assoc)
