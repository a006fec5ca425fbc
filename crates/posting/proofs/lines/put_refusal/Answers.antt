-- One piece after the other.
use Rattle.posting.specs.Lines.{refused_word, refusal_line}
use mathlib.Core.List.{append_assoc}
use Rattle.posting.proofs.lines.put_refusal.Goals as goal

pub returns : goal.returns
unfolding refusal_line refused_word
returns c =
    rw (
      c.put_code.ensures.text,
      c.put_number-4.ensures.text,
      c.put_number-3.ensures.text,
      c.put_number-2.ensures.text,
      c.put_number.ensures.text,
      c.put.ensures,
    )
    (simp append_assoc)
