-- The key is looked up, and what is found must be the other half.
use Rattle.changes.specs.Halves.{halves_in}
use Rattle.changes.proofs.Found.{keyed_other, keyed_none}
use Rattle.changes.proofs.others.Enrolled.other_of.Goals as goal

pub returns-in_err-j-clause-value : goal.returns-in_err-j-clause-value
returns-in_err-j-clause-value c =
    let a = c.args in
    let place = rw (c.in_err-j.was, c.other_key.ensures, c.record-rec.ensures.value, a.self.spaced) at c.place.ensures in
    rw c.from_residual.ensures (keyed_none a.self.file.now _ _ a.self.keyed a.i place)

pub returns-clause-value : goal.returns-clause-value
unfolding halves_in
returns-clause-value c =
    let a = c.args in
    let place = rw (c.in_ok-j.was, c.other_key.ensures, c.record-rec.ensures.value, a.self.spaced) at c.place.ensures in
    rw (c.then_some.ensures, c.halves.ensures, c.record-rec.ensures.value, c.record.ensures.value) (keyed_other a.self.file.now _ _ a.self.keyed a.i _ place)
