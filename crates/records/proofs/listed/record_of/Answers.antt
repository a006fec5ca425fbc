-- A part of the file.
use Rattle.records.proofs.Places.{record-inside}
use Rattle.records.specs.Records.{record_at}
use native.Mathlib.Omega.{arith}
use Rattle.records.proofs.listed.record_of.Goals as goal

pub overflow_mul-i : goal.overflow_mul-i
overflow_mul-i c =
    let a = c.args in
    rw c.of-size.ensures (omega (arith, record-inside a.kind a.file.now a.i c.requires))

pub part-requires : goal.part-requires
part-requires c =
    let a = c.args in
    rw c.of-size.ensures (record-inside a.kind a.file.now a.i c.requires)

pub returns : goal.returns
unfolding record_at
returns c =
    rw (← c.of-size.ensures) (record {
      result_value = c.part.ensures.result_value;
      result_len = c.part.ensures.result_len;
    })
