-- The whole text, then as much of the buffer as it takes.
use Rattle.posting.proofs.Posted.{size_fits, size-short, after-fits, after-short}
use Rattle.posting.proofs.Texts.{put_front}
use Rattle.posting.specs.Posting.{post_text}
use mathlib.Core.Path.{◌≡◌, sym, ◌∙◌}
use Rattle.posting.proofs.posting.post.Goals as goal

pub returns-then-bytes-text-clause-value : goal.returns-then-bytes-text-clause-value
returns-then-bytes-text-clause-value c =
    let a = c.args in
    let whole : c.as_bytes-bytes.result.now ≡ post_text a.request.now a.res.now = c.as_bytes-bytes.ensures ∙ c.compose.ensures in
    rw whole (sym (size_fits _ _ _ (rw whole at c.if-bytes-text.true)))

pub returns-then-bytes-text-clause-text_after : goal.returns-then-bytes-text-clause-text_after
returns-then-bytes-text-clause-text_after c =
    let a = c.args in
    let whole : c.as_bytes-bytes.result.now ≡ post_text a.request.now a.res.now = c.as_bytes-bytes.ensures ∙ c.compose.ensures in
    c.put.ensures ∙
    rw whole (put_front (post_text a.request.now a.res.now) a.text.now ∙ sym (after-fits _ _ _ (rw whole at c.if-bytes-text.true)))

pub returns-clause-value : goal.returns-clause-value
returns-clause-value c =
    let a = c.args in
    let whole : c.as_bytes-bytes.result.now ≡ post_text a.request.now a.res.now = c.as_bytes-bytes.ensures ∙ c.compose.ensures in
    sym (size-short _ _ _ (rw whole at c.if-bytes-text.false))

pub returns-clause-text_after : goal.returns-clause-text_after
returns-clause-text_after c =
    let a = c.args in
    let whole : c.as_bytes-bytes.result.now ≡ post_text a.request.now a.res.now = c.as_bytes-bytes.ensures ∙ c.compose.ensures in
    sym (after-short _ _ _ (rw whole at c.if-bytes-text.false))
