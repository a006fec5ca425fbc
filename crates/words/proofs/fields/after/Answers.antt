-- After each turn the rest is what stands after one b more.
use mathlib.Core.Path.{sym, ◌∙◌, ap}
use Rattle.words.specs.Fields.{tail_by}
use Rattle.words.proofs.Marks.{after_none, after_more}
use Rattle.words.proofs.fields.after.Goals as goal

pub loop-init : goal.loop-init
loop-init c = sym (after_none _ _)

pub loop-preserved : goal.loop-preserved
loop-preserved c =
    let s = c.args in
    c.tail-left.ensures ∙ (ap (tail_by s.b) c.loop.invariant ∙ sym (after_more s.b s.s.now c.loop.counter))
