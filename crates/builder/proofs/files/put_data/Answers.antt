-- One record after the other.
use Prim.Native.Nat.{◌+◌}
use Rattle.laws.proofs.Joins.{size_below}
use Rattle.kinds.specs.Kinds.{fixed_of}
use Rattle.builder.proofs.Built.{filled-start, filled_next}
use Rattle.builder.proofs.Sizes.{one_more, frame-fits}
use borrow.Author.Rules.{rules}
use native.Mathlib.Nat.{le_antisymm}
use native.Mathlib.Omega.{arith}
use Rattle.builder.proofs.files.put_data.Goals as goal

pub loop-i-init : goal.loop-i-init
loop-i-init c = let a = c.args in filled-start a.kind a.bodies.now a.file.now (omega (arith, one_more a.n (fixed_of a.kind).size))

pub overflow_mul-i : goal.overflow_mul-i
overflow_mul-i c =
    let a = c.args in
    rw c.size_of-size.ensures (omega (arith, size_below (c.loop-i.i + 1) (a.n + 2) (fixed_of a.kind).size (omega arith), frame-fits a.kind a.n (omega arith)))

pub put_record-requires : goal.put_record-requires
put_record-requires c =
    let a = c.args in
    record {
      i_lt_limit = search rules;
      kind_in_bounds = rw c.size_of-size.ensures (omega (arith, size_below (c.loop-i.i + 1) (a.n + 2) (fixed_of a.kind).size (omega arith)));
    }

pub loop-i-preserved : goal.loop-i-preserved
loop-i-preserved c =
    let a = c.args in
    let l = c.loop-i in
    let p = c.put_record in
    filled_next a.kind a.bodies.now a.file.now (omega (arith, one_more a.n (fixed_of a.kind).size)) l.i l.file _ l.invariant (rw c.size_of-size.ensures at p.ensures)

pub returns : goal.returns
returns c =
    let l = c.loop-i in
    rw (← le_antisymm c.loop-i-test.false l.auto.i-end) at l.invariant
