-- What is told is rewritten, from the file inward, to what the calls answered.
use Rattle.std.specs.Prelude.{Err}
use borrow.Author.Rules.{rules}
use mathlib.Core.Path.{◌≡◌}
use Rattle.answers.proofs.Tellings.{first, next}
use Rattle.evidence.specs.Reading.{counts_told}
use Rattle.evidence.proofs.totals.counts_tell.Goals as goal

pub returns-in_err-count_tells : goal.returns-in_err-count_tells
unfolding counts_told
returns-in_err-count_tells c =
    let e : c.from_residual.result ≡ Err c.in_err-count_tells.field-0.0 = search rules in
    rw (e, ← c.requires.n_value, ← c.block-header.ensures.result_value, ← c.part.ensures.result_value, ← c.says.ensures)
    (first _ _ _ c.in_err-count_tells.ensures)

pub returns-in_err-count_tells-2 : goal.returns-in_err-count_tells-2
unfolding counts_told
returns-in_err-count_tells-2 c =
    let e : c.from_residual-in_err-count_tells-2.result ≡ Err c.in_err-count_tells-2.field-0.0 = search rules in
    rw (e, ← c.requires.n_value, ← c.block-header.ensures.result_value, ← c.part.ensures.result_value, ← c.says.ensures)
    (next _ _ _ c.in_ok-count_tells.ensures
    (rw (← c.count.ensures, ← c.block-trailer.ensures.result_value, ← c.part-2.ensures.result_value, ← c.says-2.ensures)
    (first _ _ _ c.in_err-count_tells-2.ensures)))

pub returns : goal.returns
unfolding counts_told
returns c =
    rw (← c.requires.n_value, ← c.block-header.ensures.result_value, ← c.part.ensures.result_value, ← c.says.ensures)
    (next _ _ _ c.in_ok-count_tells.ensures
    (rw (← c.count.ensures, ← c.block-trailer.ensures.result_value, ← c.part-2.ensures.result_value, ← c.says-2.ensures)
    (next _ _ _ c.in_ok-count_tells-2.ensures
    (rw (c.count.ensures, ← c.count-2.ensures, ← c.part-3.ensures.result_value, ← c.says-3.ensures) c.count_tells-3.ensures))))
