-- By whether the place is below n.
use Rattle.records.proofs.Places.{record-inside}
use Rattle.walker.proofs.Steps.{step-record, step_end}
use mathlib.Core.Path.{sym}
use native.Mathlib.Omega.{arith}
use Prim.Native.Nat.{◌+◌}
use Rattle.walker.proofs.walking.record_after.Goals as goal

pub returns-then-data_count-place : goal.returns-then-data_count-place
returns-then-data_count-place c =
    let a = c.args in
    sym (step_end a.kind a.file.now a.place (rw (← c.data_count.ensures) c.if-data_count-place.true))

pub overflow_mul-result : goal.overflow_mul-result
overflow_mul-result c =
    let a = c.args in
    rw c.of-size.ensures (omega (arith, record-inside a.kind a.file.now (a.place + 1) (omega arith)))

pub returns : goal.returns
returns c =
    let a = c.args in
    rw c.of-size.ensures (sym (step-record a.kind a.file.now a.place (rw (← c.data_count.ensures) c.if-data_count-place.false)))
