-- Whether any length is long.
use Rattle.std.proofs.Common.{rules, tests, ◌≡◌}
use Rattle.std.specs.List.{list_any}
use Rattle.std.proofs.lemmas.Iterator.{YieldsList-from_slice}
use Rattle.std.proofs.lemmas.Iterator.Search.{any_from_yields_List}
use lib.Dec.{leb}
use Rattle.day.proofs.Forms.{form-any}
use Rattle.day.proofs.contents.form_for.Goals as goal

pub returns-then-any : goal.returns-then-any
returns-then-any c =
    let any : c.any.result ≡ list_any (λ x. leb 100000 x) c.args.lengths.now = any_from_yields_List (λ x. leb 100000 x) _ _ c.any.result c.any.ensures.ran (YieldsList-from_slice c.args.lengths.now c.iter.ensures.rest) (λ x b q k. search (rules, tests)) in
    rw (← any, c.if-any.true) at (form-any c.args.lengths.now)

pub returns : goal.returns
returns c =
    let any : c.any.result ≡ list_any (λ x. leb 100000 x) c.args.lengths.now = any_from_yields_List (λ x. leb 100000 x) _ _ c.any.result c.any.ensures.ran (YieldsList-from_slice c.args.lengths.now c.iter.ensures.rest) (λ x b q k. search (rules, tests)) in
    rw (← any, c.if-any.false) at (form-any c.args.lengths.now)
