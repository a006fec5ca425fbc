-- The front, then the entries.
use mathlib.Core.Path.{sym, ◌∙◌, ap}
use native.Mathlib.Omega.{arith}
use borrow.Author.Tests.{le-leb, lt-leb}
use Rattle.numbers.specs.Numbers.{value_of}
use Rattle.day.specs.Contents.{width_in, count_in, table_good}
use Rattle.day.proofs.Contained.{front-three}
use Rattle.day.proofs.contents.Contents.entries.Goals as goal
use Rattle.day.proofs.contents.Contents.entries.Goals.{then-n-gt-MOST-via-then-n-gt-MOST, then-n-gt-MOST-via-else-n-gt-MOST+then-file-entry_at}

pub bounds-file-0 : goal.bounds-file-0
bounds-file-0 c = omega (arith, front-three c.args.file.now (sym c.front_good.ensures ∙ c.if-not-front_good.false))

pub part-requires : goal.part-requires
part-requires c = front-three c.args.file.now (sym c.front_good.ensures ∙ c.if-not-front_good.false)

pub returns-then-n-gt-MOST-clause-good : goal.returns-then-n-gt-MOST-clause-good
unfolding table_good width_in count_in
returns-then-n-gt-MOST-clause-good c =
    rw (← c.front_good.ensures, c.if-not-front_good.false, ← c.part.ensures.result_value, ← c.number-n.ensures, ← c.width-width.ensures.value) (elim c.then-n-gt-MOST.branch [
      | then-n-gt-MOST-via-then-n-gt-MOST w ↦ rw (lt-leb _ 16 w.if-n-gt-MOST.true)
      | then-n-gt-MOST-via-else-n-gt-MOST+then-file-entry_at w ↦ rw (le-leb _ 16 w.if-n-gt-MOST.false, ← w.entry_at.ensures, lt-leb _ _ w.if-file-entry_at.true)
    ])

pub invariant_of-result : goal.invariant_of-result
unfolding width_in count_in
invariant_of-result c =
    record {
      by_form = c.width-width.ensures.value;
      digits = c.width-width.ensures.upper_bound;
      by_count = c.number-n.ensures ∙ ap value_of c.part.ensures.result_value;
      few = c.if-n-gt-MOST.false;
      whole = rw (← c.entry_at.ensures) c.if-file-entry_at.false;
    }

pub returns-clause-good : goal.returns-clause-good
unfolding table_good width_in count_in
returns-clause-good c =
    rw (← c.front_good.ensures, c.if-not-front_good.false, ← c.part.ensures.result_value, ← c.number-n.ensures, ← c.width-width.ensures.value, le-leb _ 16 c.if-n-gt-MOST.false, ← c.entry_at.ensures, le-leb _ _ c.if-file-entry_at.false)
