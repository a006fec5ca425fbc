-- The kind first.
use Rattle.day.specs.Bodies.{read_daily}
use Rattle.day.proofs.bodies.read_daily.Goals as goal

pub returns-in_default : goal.returns-in_default
unfolding read_daily
returns-in_default c = rw (← c.daily_of.ensures, c.in_default.is)

pub returns : goal.returns
unfolding read_daily
returns c = rw (← c.daily_of.ensures, c.in-Some.is) c.read_as.ensures
