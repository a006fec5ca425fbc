-- By the front of the list.
use mathlib.Core.Path.{refl, ◌∙◌}
use lib.Seq.{length-take-le, get_or-take}
use Rattle.day.specs.Bodies.{size_at}
use Rattle.day.proofs.Listed.{list_same}
use Rattle.day.proofs.bodies.list_tells.Goals as goal

pub counted_tell-requires : goal.counted_tell-requires
unfolding size_at
counted_tell-requires c =
    let l = c.args.lengths.now in
    let n = c.args.names.n in
    rw (length-take-le n l c.requires.enough) (record {
      few = c.requires.few;
      one_each = refl;
      short = λ i h. rw (get_or-take n l i 0 h) (c.requires.short i h);
    })

pub returns : goal.returns
unfolding size_at
returns c =
    let l = c.args.lengths.now in
    let n = c.args.names.n in
    rw (length-take-le n l c.requires.enough) at c.counted_tell.ensures ∙
    list_same _ _ _ _ n c.args.bodies.now (λ i h. refl) (λ i h. get_or-take n l i 0 h)
