-- By what was taken in all.
use Rattle.payers.specs.Turns.{marked}
use Rattle.payers.proofs.paying.Requests.mark.Goals as goal

pub returns : goal.returns
unfolding marked
returns c = rw (← c.owing.ensures, ← c.over_number-number.ensures) c.mark_with.ensures
