-- Whether any length is too long.
use Rattle.std.proofs.Common.{rules, tests, ◌≡◌}
use Rattle.std.specs.List.{list_any}
use Rattle.std.proofs.lemmas.Iterator.{YieldsList-from_slice}
use Rattle.std.proofs.lemmas.Iterator.Search.{any_from_yields_List}
use mathlib.Core.Bool.{not}
use mathlib.Core.Path.{sym, ap, ◌∙◌}
use lib.Dec.{leb}
use Rattle.day.specs.Bodies.{size_at}
use Rattle.day.specs.Contents.{length_end}
use Rattle.day.proofs.Forms.{none-any}
use Rattle.day_writer.specs.Writing.{too_long}
use Rattle.day_writer.proofs.deciding.lengths_good.Goals as goal

pub returns : goal.returns
unfolding too_long size_at
returns c =
    let any : c.any.result ≡ list_any (λ x. leb length_end x) c.args.lengths.now = any_from_yields_List (λ x. leb length_end x) _ _ c.any.result c.any.ensures.ran (YieldsList-from_slice c.args.lengths.now c.iter.ensures.rest) (λ x b q k. search (rules, tests)) in
    ap not any ∙ sym (none-any (λ x. leb length_end x) c.args.lengths.now)
