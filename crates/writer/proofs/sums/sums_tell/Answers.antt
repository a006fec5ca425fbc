-- The loop looks for the first total that the trailer does not say.
use Rattle.std.specs.Prelude.{Err}
use Rattle.std.proofs.lemmas.Slice.Zip.{zip_turn, zip_end}
use Rattle.answers.proofs.Tellings.{loop-start, loop-stop, loop-more, loop-end}
use Rattle.reader.proofs.Places.{total_inside}
use Rattle.tables.proofs.Counts.{totals-few}
use Rattle.tables.specs.Totals.{no_total, totals_of}
use Rattle.writer.specs.Writing.{sum_told, sums_told}
use borrow.Author.Rules.{rules}
use mathlib.Core.List.{[], ◌∷◌}
use mathlib.Core.Path.{◌≡◌}
use native.Mathlib.Omega.{arith}
use lib.ListN.{length, length-append}
use Rattle.writer.proofs.sums.sums_tell.Goals as goal

pub loop-total-init : goal.loop-total-init
loop-total-init c = loop-start _

pub total_tells-requires : goal.total_tells-requires
total_tells-requires c =
    let l = c.loop-total in
    let k = c.args.kind in
    let some = c.in-Some in
    let turn = zip_turn (totals_of k) c.args.sums l.yielded _ l.total-iterator c.next.new.self c.next.result (search rules) (search rules) l.yielded_by (some.total, some.sum) some.is c.next.ensures.steps in
    rw (turn.2 no_total) (omega (arith, total_inside k (length l.yielded) turn.0))

pub loop-total-preserved : goal.loop-total-preserved
unfolding sum_told
loop-total-preserved c =
    let l = c.loop-total in
    let some = c.in-Some in
    let turn = zip_turn (totals_of c.args.kind) c.args.sums l.yielded _ l.total-iterator c.next.new.self c.next.result (search rules) (search rules) l.yielded_by (some.total, some.sum) some.is c.next.ensures.steps in
    rw (length-append l.yielded ((some.total, some.sum) ∷ []))
    (loop-more _ (length l.yielded) l.invariant (rw (turn.2 no_total, turn.3 0) at c.in_ok-total_tells.ensures))

pub returns-in_err-total_tells : goal.returns-in_err-total_tells
unfolding sums_told sum_told
returns-in_err-total_tells c =
    let l = c.loop-total in
    let some = c.in-Some in
    let turn = zip_turn (totals_of c.args.kind) c.args.sums l.yielded _ l.total-iterator c.next.new.self c.next.result (search rules) (search rules) l.yielded_by (some.total, some.sum) some.is c.next.ensures.steps in
    let e : c.from_residual.result ≡ Err c.in_err-total_tells.field-0.0 = search rules in
    rw e (loop-stop _ _ (length l.yielded) _ turn.0 l.invariant (rw (turn.2 no_total, turn.3 0) at c.in_err-total_tells.ensures))

pub returns : goal.returns
unfolding sums_told
returns c =
    let l = c.loop-total in
    let k = c.args.kind in
    let all = zip_end (totals_of k) c.args.sums l.yielded _ l.total-iterator c.next.new.self c.next.result (search rules) (search rules) l.yielded_by c.in-None.is c.next.ensures.steps in
    let n : length l.yielded ≡ length (totals_of k) = omega (arith, all, totals-few k) in
    loop-end _ (length l.yielded) _ (omega arith) (omega arith) l.invariant
