-- Reading, then the three.
use Rattle.std.specs.Prelude.{Err}
use mathlib.Core.Path.{◌≡◌}
use borrow.Author.Rules.{rules}
use Rattle.kinds.specs.Kinds.{EB11}
use Rattle.answers.proofs.Tellings.{first, next, good}
use Rattle.reader.proofs.Exact.{accepted-meets}
use Rattle.changes.specs.Deciding.{decided}
use Rattle.changes.proofs.deciding.decide.Goals as goal

pub returns-in_err-read_as : goal.returns-in_err-read_as
unfolding decided
returns-in_err-read_as c =
    let e : c.from_residual.result ≡ Err c.in_err-read_as.field-0.0 = search rules in
    rw e (first _ _ _ c.in_err-read_as.ensures)

pub answered_tells-requires : goal.answered_tells-requires
answered_tells-requires c = accepted-meets EB11 _ (good _ c.in_ok-read_as.ensures)

pub returns : goal.returns
unfolding decided
returns c = next _ _ _ c.in_ok-read_as.ensures c.answered_tells.ensures
