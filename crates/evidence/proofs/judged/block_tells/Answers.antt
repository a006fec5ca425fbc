-- The items, then the length, then the filler.
use Rattle.std.specs.Prelude.{Err}
use borrow.Author.Rules.{rules}
use mathlib.Core.Path.{◌≡◌}
use Rattle.answers.proofs.Tellings.{first, next, good}
use Rattle.evidence.specs.Judged.{block_told}
use Rattle.evidence.proofs.Told.{length-passed}
use Rattle.evidence.proofs.judged.block_tells.Goals as goal

pub returns-in_err-items_tell : goal.returns-in_err-items_tell
unfolding block_told
returns-in_err-items_tell c =
    let e : c.from_residual.result ≡ Err c.in_err-items_tell.field-0.0 = search rules in
    rw e (first _ _ _ c.in_err-items_tell.ensures)

pub returns-in_err-length_tells : goal.returns-in_err-length_tells
unfolding block_told
returns-in_err-length_tells c =
    let e : c.from_residual-in_err-length_tells.result ≡ Err c.in_err-length_tells.field-0.0 = search rules in
    rw e (next _ _ _ c.in_ok-items_tell.ensures (first _ _ _ c.in_err-length_tells.ensures))

pub filler_tells-requires : goal.filler_tells-requires
filler_tells-requires c =
    record {
      b_bound = c.requires.b_bound;
      file_bound = c.requires.file_bound;
      b_bound_2 = (length-passed _ _ _ _ (good _ c.in_ok-length_tells.ensures)).1;
    }

pub returns : goal.returns
unfolding block_told
returns c = next _ _ _ c.in_ok-items_tell.ensures (next _ _ _ c.in_ok-length_tells.ensures c.filler_tells.ensures)
