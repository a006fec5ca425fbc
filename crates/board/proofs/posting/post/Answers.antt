-- One step after the other: `Whole.antt` of `dues`, and of the board.
use Rattle.std.proofs.Common.{rules, ◌≡◌, ap}
use Rattle.std.specs.Prelude.{Err}
use native.Mathlib.Nat.{le_trans}
use Rattle.answers.specs.declared.of_two.OfTwo.TheVariants.{Both}
use Rattle.answers.specs.Refusing.{told_by}
use Rattle.dues.specs.Steps.{Readied}
use Rattle.dues.proofs.Whole.{told-repeat, told-ready, told-dues, posting-refused, posting-accepted, few, marking-asks, dues-asks}
use Rattle.board.proofs.Whole.{list-long, links-long, marks-long, seek-at-first, met}
use Rattle.board.proofs.posting.post.Goals as goal

pub seek-requires : goal.seek-requires
seek-requires c = seek-at-first

pub returns-in_err-seek : goal.returns-in_err-seek
returns-in_err-seek c =
    let x = c.in_err-seek.field-0.0 in
    let e : c.from_residual.result ≡ Err (Both x) = search rules in
    rw e (posting-refused _ _ _ _ _ (Both x) (told-repeat _ _ _ _ _ x c.in_err-seek.ensures))

pub returns-in_err-ready : goal.returns-in_err-ready
returns-in_err-ready c =
    let x = c.in_err-ready.field-0.0 in
    let e : c.from_residual-in_err-ready.result ≡ Err x = search rules in
    let told = ap (λ (z : Readied). z.answer) c.in_err-ready.ensures.0 in
    rw e (posting-refused _ _ _ _ _ x (told-ready _ _ _ _ _ c.in_ok-seek.ensures x told))

pub marking-requires : goal.marking-requires
marking-requires c =
    let k = c.in_ok-ready in
    marking-asks _ _ _ _ k.ready _ _ k.ensures.0 k.ensures.1 _ _ (rw c.seek.auto.links links-long) (rw c.seek.auto.room marks-long)

pub invariant_of-requests : goal.invariant_of-requests
invariant_of-requests c =
    let k = c.in_ok-ready in
    record { asks = dues-asks _ _ _ _ k.ready _ _ k.ensures.0 k.ensures.1 _ _ (rw c.seek.auto.links links-long) list-long c.marking.ensures.0 }

pub mark-requires : goal.mark-requires
mark-requires c =
    let k = c.in_ok-ready in
    le_trans (few _ _ _ _ k.ready _ _ k.ensures.0 k.ensures.1) (rw (c.marking.auto.room, c.seek.auto.room) marks-long)

pub marks_tell-requires : goal.marks_tell-requires
marks_tell-requires c =
    let k = c.in_ok-ready in
    le_trans (few _ _ _ _ k.ready _ _ k.ensures.0 k.ensures.1) (rw (c.mark.auto.marks, c.marking.auto.room, c.seek.auto.room) marks-long)

pub returns-in_err-marks_tell : goal.returns-in_err-marks_tell
returns-in_err-marks_tell c =
    let k = c.in_ok-ready in
    let x = c.in_err-marks_tell.field-0.0 in
    let e : c.from_residual-in_err-marks_tell.result ≡ Err (Both x) = search rules in
    let differ = c.in_ok-seek.ensures in
    let marked = met _ _ _ _ _ _ _ differ c.marking.ensures.1 c.mark.ensures in
    rw e (posting-refused _ _ _ _ _ (Both x) (told-dues _ _ _ _ k.ready _ _ k.ensures.0 k.ensures.1 _ _ marked (told_by x) differ c.in_err-marks_tell.ensures))

pub returns : goal.returns
returns c =
    let k = c.in_ok-ready in
    let differ = c.in_ok-seek.ensures in
    let marked = met _ _ _ _ _ _ _ differ c.marking.ensures.1 c.mark.ensures in
    rw c.settle.ensures
    (posting-accepted _ _ _ _ k.ready _ _ k.ensures.0 k.ensures.1 _ (told-dues _ _ _ _ k.ready _ _ k.ensures.0 k.ensures.1 _ _ marked _ differ c.in_ok-marks_tell.ensures))
