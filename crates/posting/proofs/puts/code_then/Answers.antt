-- By whether the code is blank.
use Rattle.laws.specs.Tabulate.{tabulate}
use Rattle.posting.specs.Lines.{code_then}
use Rattle.numbers.specs.Numbers.{letter_of}
use borrow.Author.Tests.{eq-eqb, ne_eqb}
use Rattle.posting.proofs.puts.code_then.Goals as goal

pub returns-then-code-eq538976288 : goal.returns-then-code-eq538976288
unfolding code_then tabulate letter_of
returns-then-code-eq538976288 c = rw (eq-eqb _ 0x20202020 c.if-code-eq538976288.true)

pub returns : goal.returns
unfolding code_then tabulate
returns c =
    rw (
      ne_eqb _ 0x20202020 c.if-code-eq538976288.false,
      c.letter.ensures,
      c.letter-2.ensures,
      c.letter-3.ensures,
      c.letter-4.ensures,
    )
