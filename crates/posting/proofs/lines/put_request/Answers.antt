-- One piece after the other.
use Rattle.posting.specs.Lines.{request_line}
use mathlib.Core.List.{append_assoc}
use Rattle.posting.proofs.lines.put_request.Goals as goal

pub returns-clause-text : goal.returns-clause-text
unfolding request_line
returns-clause-text c =
    rw (
      c.put-2.ensures,
      c.put_code.ensures.text,
      c.put_number-3.ensures.text,
      c.put_number-2.ensures.text,
      c.put.ensures,
      c.put_number.ensures.text,
      c.word.ensures.value,
      c.last_word.ensures.value,
      c.numbers.ensures,
      c.maker_in.ensures,
    )
    (simp append_assoc)
