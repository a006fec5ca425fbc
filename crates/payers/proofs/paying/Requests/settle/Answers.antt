-- By whether a request names the member.
use Rattle.payers.specs.Turns.{settled_by}
use Rattle.payers.proofs.Paid.{member-other, member-named}
use Rattle.payers.proofs.paying.Requests.settle.Goals as goal

pub returns-then-is_none : goal.returns-then-is_none
unfolding settled_by
returns-then-is_none c =
    let k = c.linked.ensures in
    member-other _ _ _ _ _ (rw (k.keys_value, k.n_value) at c.last.ensures) c.if-is_none.ensures

pub returns : goal.returns
unfolding settled_by
returns c =
    let k = c.linked.ensures in
    rw (c.state_of.ensures, c.rest-owed.ensures, c.owing.ensures)
    (member-named _ _ _ _ _ (rw (k.keys_value, k.n_value) at c.last.ensures) c.if-is_none.ensures)
