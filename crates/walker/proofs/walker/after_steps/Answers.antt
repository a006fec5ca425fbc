-- After as many steps as were asked the walker hands out what the walk hands out at that many.
use Rattle.std.specs.Prelude.{Err}
use Rattle.std.proofs.Common.{◌≡◌, sym, ◌∙◌, ap, arith, rules}
use Rattle.walker.specs.Walks.{walk_of}
use Rattle.walker.specs.Walkers.{handed_by, moved_on}
use Rattle.walker.proofs.Records.{refused-ever}
use Rattle.walker.proofs.Stepped.{stepped-none, stepped-more, stepped-hands}
use Rattle.walker.proofs.walker.after_steps.Goals as goal

pub loop-init : goal.loop-init
loop-init c = sym (stepped-none c.opened-walker.result)

pub returns-in_err-next : goal.returns-in_err-next
returns-in_err-next c =
    let e : c.from_residual.result ≡ Err c.in_err-next.field-0.0 = search rules in
    let hands = stepped-hands _ _ _ c.opened-walker.ensures c.loop.counter in
    rw e (refused-ever _ _ _ c.loop.counter _ (c.in_err-next.ensures.0 ∙ ap handed_by c.loop.invariant ∙ hands))

pub loop-preserved : goal.loop-preserved
loop-preserved c = c.next.ensures.1 ∙ ap moved_on c.loop.invariant ∙ sym (stepped-more c.opened-walker.result c.loop.counter)

pub returns : goal.returns
returns c =
    let all : c.loop.counter ≡ c.args.steps = omega arith in
    c.next-2.ensures.0 ∙ ap handed_by c.loop.invariant ∙ stepped-hands _ _ _ c.opened-walker.ensures c.loop.counter ∙ ap (walk_of c.args.kind c.args.file.now) all
