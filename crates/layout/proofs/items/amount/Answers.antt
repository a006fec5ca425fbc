-- The amount's thirteen bytes, read.
use Rattle.numbers.proofs.Values.{value-size}
use Rattle.numbers.specs.Numbers.{value_of}
use mathlib.Core.Path.{ap, ◌∙◌}
use Rattle.layout.proofs.items.amount.Goals as goal

pub returns : goal.returns
returns c =
    record {
      value = c.number.ensures ∙ ap value_of c.part.ensures.result_value;
      upper_bound = rw c.number.ensures (value-size _ 13 c.part.ensures.result_len);
    }
