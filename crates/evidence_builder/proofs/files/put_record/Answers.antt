-- The front, the unit, the filler.
use Prim.Native.Nat.{◌+◌, ◌-◌, ◌*◌}
use mathlib.Core.List.{◌++◌}
use mathlib.Core.Path.{◌≡◌, ◌∙◌}
use Rattle.laws.specs.Stored.{stored}
use Rattle.evidence.specs.Blocks.{block, front, blocks_for}
use Rattle.evidence.proofs.Walks.{blocks-enough}
use Rattle.evidence_builder.specs.Files.{blanks, record_front}
use Rattle.evidence_builder.proofs.Written.{front_length}
use Rattle.laws.proofs.Stores.{stored-then}
use native.Mathlib.Omega.{arith}
use Rattle.evidence_builder.proofs.files.put_record.Goals as goal

pub put_front-requires : goal.put_front-requires
put_front-requires c =
    record {
      code_len = c.requires.code_len;
      at_in_bounds = omega (arith, blocks-enough c.args.said);
    }

pub put-requires : goal.put-requires
put-requires c = omega (arith, blocks-enough c.args.said)

pub overflow_sub-blocks_for : goal.overflow_sub-blocks_for
overflow_sub-blocks_for c = rw c.blocks_for.ensures (blocks-enough _)

pub blanks-requires : goal.blanks-requires
blanks-requires c = omega (arith, c.blocks_for.ensures, blocks-enough c.args.said)

pub returns : goal.returns
returns c =
    let at = c.args.at in
    let code = c.args.code.now in
    let unit = c.args.unit.now in
    let said = c.args.said in
    let filler = blanks (blocks_for said * block - (front + said)) in
    let last = c.blanks.new.room in
    let r₁ = c.put_front.new.room in
    let r₂ = c.put.new.room in
    let of-blanks : last ≡ stored (at + (front + said)) filler r₂ = c.blanks.ensures ∙ rw c.blocks_for.ensures in
    stored-then at (at + 45) (record_front code c.args.n) (unit ++ filler) c.args.room.now r₁ last c.put_front.ensures
    (stored-then (at + 45) (at + (front + said)) unit filler r₁ r₂ last c.put.ensures of-blanks
    (omega (arith, c.requires.unit_len)) (omega (arith, blocks-enough said)))
    (omega (arith, front_length code c.args.n c.requires.code_len)) (omega (arith, c.requires.block_in_bounds))
