-- By its place.
use Rattle.std.proofs.Common.{sym, ◌∙◌}
use Rattle.tables.proofs.Making.{bank-placed, centre-placed, none_placed}
use Rattle.tables.proofs.makers.maker_of.Goals as goal

pub returns-in-Some : goal.returns-in-Some
returns-in-Some c = sym (bank-placed _ _ (sym c.place.ensures ∙ c.in-Some.is) c.if-place-lt-BANKS.true)

pub returns-in-Some-2 : goal.returns-in-Some-2
returns-in-Some-2 c = sym (centre-placed _ _ (sym c.place.ensures ∙ c.in-Some.is) c.if-place-lt-BANKS.false)

pub returns-in-None : goal.returns-in-None
returns-in-None c = sym (none_placed _ (sym c.place.ensures ∙ c.in-None.is))
