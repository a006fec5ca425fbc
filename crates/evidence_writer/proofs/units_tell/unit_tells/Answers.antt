-- The items, then the length, then the evidence.
use Rattle.std.specs.Prelude.{Err, ◌+◌}
use borrow.Author.Rules.{rules}
use lib.ListN.{length}
use mathlib.Core.Path.{◌≡◌}
use native.Mathlib.Omega.{arith}
use borrow.Author.Tests.{le-leb, lt-leb}
use Rattle.answers.proofs.Tellings.{first, next}
use Rattle.evidence_writer.specs.Writing.{unit_told}
use Rattle.evidence_writer.proofs.units_tell.unit_tells.Goals as goal

pub returns-then-x-p-lt-ITEMS : goal.returns-then-x-p-lt-ITEMS
unfolding unit_told
returns-then-x-p-lt-ITEMS c = let a = c.args in rw (lt-leb (a.p + 74) (length a.x.now) (omega arith))

pub returns-in_err-items_tell : goal.returns-in_err-items_tell
unfolding unit_told
returns-in_err-items_tell c =
    let a = c.args in
    let e : c.from_residual.result ≡ Err c.in_err-items_tell.field-0.0 = search rules in
    rw (e, le-leb (a.p + 74) (length a.x.now) (omega arith)) (first _ _ _ c.in_err-items_tell.ensures)

pub returns-in_err-length_tells : goal.returns-in_err-length_tells
unfolding unit_told
returns-in_err-length_tells c =
    let a = c.args in
    let e : c.from_residual-in_err-length_tells.result ≡ Err c.in_err-length_tells.field-0.0 = search rules in
    rw (e, le-leb (a.p + 74) (length a.x.now) (omega arith)) (next _ _ _ c.in_ok-items_tell.ensures (first _ _ _ c.in_err-length_tells.ensures))

pub returns : goal.returns
unfolding unit_told
returns c =
    let a = c.args in
    rw (le-leb (a.p + 74) (length a.x.now) (omega arith)) (next _ _ _ c.in_ok-items_tell.ensures (next _ _ _ c.in_ok-length_tells.ensures c.evidence_tells.ensures))
