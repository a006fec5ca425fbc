-- Reading first, then the name.
use Rattle.std.specs.Prelude.{Err}
use mathlib.Core.Path.{◌≡◌}
use borrow.Author.Rules.{rules}
use native.Mathlib.Omega.{arith}
use Rattle.answers.proofs.Tellings.{first, next, good}
use Rattle.day.specs.Bodies.{body_told}
use Rattle.day.proofs.Body.{good-long}
use Rattle.day.proofs.bodies.body_tells.Goals as goal

pub returns-in_err-read_daily : goal.returns-in_err-read_daily
unfolding body_told
returns-in_err-read_daily c =
    let e : c.from_residual.result ≡ Err c.in_err-read_daily.field-0.0 = search rules in
    rw (e, ← c.word.ensures) (first _ _ _ c.in_err-read_daily.ensures)

pub name_tells-requires : goal.name_tells-requires
name_tells-requires c = omega (arith, good-long _ _ (good _ c.in_ok-read_daily.ensures))

pub returns : goal.returns
unfolding body_told
returns c = rw (← c.word.ensures) (next _ _ _ c.in_ok-read_daily.ensures c.name_tells.ensures)
