-- Behind the name of its entry.
use Rattle.day.specs.Contents.{digits_in}
use Rattle.day.proofs.contents.Contents.digits.Goals as goal

pub returns-clause-value : goal.returns-clause-value
unfolding digits_in
returns-clause-value c = rw (← c.args.self.by_form, ← c.entry_at.ensures) c.part.ensures.result_value
