-- Piece by piece.
use Rattle.std.proofs.Common.{◌≤◌, arith}
use Rattle.tables.proofs.Tiling.{size-least}
use Rattle.builder.proofs.Pieces.{record-built}
use Rattle.builder.proofs.building.data.Goals as goal

pub returns : goal.returns
returns g c =
    let a = c.args in
    let w = g.row.N in
    let wide : 120 ≤ w = omega (arith, size-least a.kind, c.requires.kind_value) in
    let m = c.min-n.ensures in
    rw (c.put-2.ensures, c.put.ensures, c.part.ensures.result_value, c.put_digits.ensures)
    (record-built a.kind a.header.now a.bodies.now c.rest-body.result.now a.i w c.min-n.result c.requires.kind_value (omega arith) (omega arith)
    (rw (← c.of.ensures) c.rest-body.ensures) (omega arith) (λ h. omega arith))
