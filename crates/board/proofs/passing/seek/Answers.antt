-- A turn of the search looks at the next member: `Sought.antt`.
use Rattle.std.proofs.Common.{length, ap, refl, arith, ◌∙◌}
use Rattle.laws.specs.Least.{number_in}
use Rattle.payers.specs.Members.{payer_on, repeat_on, repeat_number, repeat_tells}
use Rattle.board.proofs.Sought.{seeks-start, seeks-turn, seeks-end}
use Rattle.board.proofs.Passes.{sought-nearer}
use Rattle.board.proofs.passing.seek.Goals as goal

pub loop-place-init : goal.loop-place-init
loop-place-init c = rw c.first-place.ensures (seeks-start _ _ _ _ c.requires.links-room c.requires.held-room c.requires.none)

pub loop-place-smaller : goal.loop-place-smaller
loop-place-smaller c =
    let l = c.loop-place in
    rw c.seek-place.ensures.value (sought-nearer _ l.place _ _ l.invariant.so_far.inside c.loop-place-test.true)

pub loop-place-preserved : goal.loop-place-preserved
unfolding payer_on
loop-place-preserved c =
    let a = c.args in
    let l = c.loop-place in
    rw (c.seek-place.ensures.value, c.seek-place.ensures.links_after, c.seek-place.ensures.room_after)
    (seeks-turn (payer_on a.board.now) _ l.place l.links l.room _ l.invariant.so_far c.loop-place-test.true refl c.seek-place.ensures.payer_len)

pub returns : goal.returns
unfolding repeat_number repeat_on
returns c =
    let l = c.loop-place in
    c.repeat_tells.ensures ∙
    ap (λ (k : _). repeat_tells (number_in (length c.args.board.now) k)) (seeks-end _ _ l.place l.links l.room l.invariant (λ h. absurd (omega (arith, h, c.loop-place-test.false))))
