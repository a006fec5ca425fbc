-- The order of slices.
use Rattle.std.specs.Ordering.{is_lt, is_some_and, nat_cmp}
use Rattle.std.specs.Cmp.Lexicographic.{lists_agrees}
use mathlib.Core.Path.{refl, ap, ◌∙◌}
use Rattle.dues.proofs.Dates.{later-less}
use Rattle.dues.proofs.ready.later.Goals as goal

pub returns : goal.returns
returns c =
    let a = c.args.a.now in
    let b = c.args.b.now in
    c.lt.ensures ∙ (ap (is_some_and is_lt) (lists_agrees {R = nat_cmp} (λ x y. refl) b a) ∙ later-less a b c.requires.a_len c.requires.b_len)
