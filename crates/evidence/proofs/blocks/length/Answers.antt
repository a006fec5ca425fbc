-- Seven bytes say a number below 10,000,000.
use Rattle.numbers.proofs.Values.{value-size}
use Rattle.evidence.proofs.blocks.length.Goals as goal

pub returns-clause-upper_bound : goal.returns-clause-upper_bound
returns-clause-upper_bound c = rw c.number.ensures (value-size _ 7 c.part.ensures.result_len)
