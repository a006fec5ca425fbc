-- The loop looks for the first total that is not what the records give.
use Rattle.std.specs.Prelude.{Err}
use mathlib.Core.Path.{◌≡◌}
use borrow.Author.Rules.{rules}
use Rattle.answers.proofs.Tellings.{loop-start, loop-stop, loop-more, loop-end}
use Rattle.reader.specs.Totals.{total_tells, totals_tell}
use Rattle.reader.proofs.Places.{total_inside}
use Rattle.reader.proofs.totals.totals_tell.Goals as goal

pub loop-total-init : goal.loop-total-init
loop-total-init c = loop-start _

pub total_tells-requires : goal.total_tells-requires
total_tells-requires c =
    let table = c.totals_of-total-items.ensures in
    record {
      bound = c.requires.bound;
      file_bound = c.requires.file_bound;
      total_bound = rw table (total_inside c.args.kind c.loop-total.total-index (rw table at c.loop-total-test.true));
    }

pub returns-in_err-total_tells : goal.returns-in_err-total_tells
unfolding totals_tell total_tells
returns-in_err-total_tells c =
    let l = c.loop-total in
    let table = c.totals_of-total-items.ensures in
    let e : c.from_residual.result ≡ Err c.in_err-total_tells.field-0.0 = search rules in
    rw e (loop-stop _ _ l.total-index _ (rw table at c.loop-total-test.true) l.invariant (rw table at c.in_err-total_tells.ensures))

pub loop-total-preserved : goal.loop-total-preserved
unfolding total_tells
loop-total-preserved c =
    let table = c.totals_of-total-items.ensures in
    loop-more _ c.loop-total.total-index c.loop-total.invariant (rw table at c.in_ok-total_tells.ensures)

pub returns : goal.returns
unfolding totals_tell
returns c =
    let l = c.loop-total in
    let table = c.totals_of-total-items.ensures in
    loop-end _ l.total-index _ (rw table at c.loop-total-test.false) (rw table at l.auto.total-index-end) l.invariant
