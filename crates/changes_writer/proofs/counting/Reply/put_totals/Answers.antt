-- One total after the other.
use mathlib.Core.Path.{sym, ◌∙◌}
use native.Mathlib.Nat.{le_antisymm}
use native.Mathlib.Omega.{arith}
use Rattle.kinds.specs.Kinds.{EB11}
use Rattle.reader.proofs.Places.{total_inside}
use Rattle.changes_writer.proofs.Built.{totals-start, totals-more}
use Rattle.changes_writer.proofs.counting.Reply.put_totals.Goals as goal

pub loop-total-init : goal.loop-total-init
loop-total-init c = totals-start c.args.self.file.now c.args.self.answers.now c.args.rec.now

pub put_digits-requires : goal.put_digits-requires
put_digits-requires c =
    let l = c.loop-total in
    let table = c.totals_of-total-items.ensures in
    let inside = total_inside EB11 l.total-index (rw table at c.loop-total-test.true) in
    rw table (record {
      w_bound = omega (arith, inside);
      w_in_bounds = rw (l.auto.rec ∙ c.requires) inside;
    })

pub loop-total-preserved : goal.loop-total-preserved
loop-total-preserved c =
    let l = c.loop-total in
    let table = c.totals_of-total-items.ensures in
    c.put_digits.ensures ∙ rw (c.refused_of.ensures, table, l.invariant) (sym (totals-more c.args.self.file.now c.args.self.answers.now c.args.rec.now l.total-index))

pub returns : goal.returns
returns c =
    let l = c.loop-total in
    let table = c.totals_of-total-items.ensures in
    let end = le_antisymm (rw table at c.loop-total-test.false) (rw table at l.auto.total-index-end) in
    rw end l.invariant
