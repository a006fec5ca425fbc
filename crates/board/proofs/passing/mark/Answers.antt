-- One member's marks more: `Marked.antt` of `payers`.
use Rattle.std.proofs.Common.{◌≡◌, length, refl, ◌∙◌, rules}
use Rattle.payers.specs.Turns.{dues_key, listed}
use Rattle.payers.proofs.Marked.{mark_at, mark-more, mark-end}
use Rattle.board.proofs.Passes.{marks-here}
use Rattle.board.proofs.Repeats.{payers-differ}
use Rattle.board.proofs.passing.mark.Goals as goal

pub loop-member-init : goal.loop-member-init
unfolding mark_at
loop-member-init c i h = refl

pub loop-member-preserved : goal.loop-member-preserved
loop-member-preserved c i h =
    let a = c.args in
    let l = c.loop-member in
    let key = dues_key a.requests.request.now in
    let won = listed a.requests.taken.now in
    rw (c.mark.ensures, marks-here a.requests.n l.member-index a.board.now a.requests.request.now a.requests.taken.now l.marks)
    (mark-more a.board.now key won a.requests.n l.member-index a.marks.now l.marks (search rules) l.invariant i h)

pub returns : goal.returns
returns c e i h old =
    let a = c.args in
    let l = c.loop-member in
    let all : l.member-index ≡ length a.board.now = search rules in
    l.invariant i h ∙ rw all (mark-end a.board.now (dues_key a.requests.request.now) (listed a.requests.taken.now) a.requests.n (payers-differ a.board.now e) i _ old)
