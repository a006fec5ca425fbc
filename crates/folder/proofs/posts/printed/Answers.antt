-- A buffer of that size holds every text.
use Rattle.posting.proofs.Bounds.{text-size, text-taken}
use Rattle.folder.proofs.posts.printed.Goals as goal

pub slice_bounds-result-end : goal.slice_bounds-result-end
slice_bounds-result-end c =
    let p = c.post-size in
    rw (text-taken _ _ c.args.output.now _ p.result c.requires p.ensures.value p.ensures.text_after)
    (text-size _ _ c.args.output.now _ p.result c.requires p.ensures.value p.ensures.text_after)

pub returns : goal.returns
returns c =
    let p = c.post-size in
    text-taken _ _ c.args.output.now _ p.result c.requires p.ensures.value p.ensures.text_after
