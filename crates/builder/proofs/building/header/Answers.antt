-- Row by row, from the last one on.
use Rattle.std.proofs.Common.{◌≡◌, ◌∙◌, sym, length, [], ◌∷◌, arith, rules}
use Rattle.std.proofs.lemmas.Iterator.Adapters.{YieldsList-from_rev_slice}
use Rattle.std.proofs.lemmas.Iterator.Consumers.{YieldsList-turn, YieldsList-end}
use Rattle.std.proofs.lemmas.List.{length-append, length-replicate, length-reverse}
use lib.ListN.{replicate}
use Rattle.kinds.specs.Kinds.{fixed_of}
use Rattle.kinds.specs.declared.of_files.Role.TheVariants.{Header}
use Rattle.tables.specs.Rows.{blank}
use Rattle.tables.specs.Tables.{rows_of}
use Rattle.builder.specs.Records.{given, header_fill, header_byte, header_built}
use Rattle.builder.proofs.Laying.{back_turn, next_inside, laid_start, laid_more, laid_end}
use Rattle.builder.proofs.building.header.Goals as goal

pub loop-row-init : goal.loop-row-init
loop-row-init g c =
    let a = c.args in
    let long : length (replicate g.row.N 0) ≡ (fixed_of a.kind).size = rw length-replicate (sym c.requires) in
    (long, laid_start a.kind Header (header_fill a.kind (given a.head)) (replicate g.row.N 0) long)

pub put_header_row-requires : goal.put_header_row-requires
put_header_row-requires g c =
    let a = c.args in
    let l = c.loop-row in
    let some = c.in-Some in
    let turn =
    back_turn (rows_of a.kind Header) blank (length l.yielded) some.row.now
    (YieldsList-turn (YieldsList-from_rev_slice (rows_of a.kind Header) (search rules)) l.yielded _ l.yielded_by _ _ some.row some.is c.next.ensures.steps) in
    omega (arith, next_inside a.kind Header (header_fill a.kind (given a.head)) (length l.yielded) some.row.now turn, l.invariant.0)

pub loop-row-preserved : goal.loop-row-preserved
loop-row-preserved g c =
    let a = c.args in
    let l = c.loop-row in
    let some = c.in-Some in
    let turn =
    back_turn (rows_of a.kind Header) blank (length l.yielded) some.row.now
    (YieldsList-turn (YieldsList-from_rev_slice (rows_of a.kind Header) (search rules)) l.yielded _ l.yielded_by _ _ some.row some.is c.next.ensures.steps) in
    rw (length-append l.yielded (some.row ∷ []))
    (laid_more a.kind Header (header_fill a.kind (given a.head)) (length l.yielded) some.row.now turn l.rec _ l.invariant.0 c.put_header_row.ensures l.invariant.1)

pub returns : goal.returns
unfolding header_built header_byte
returns g c =
    let a = c.args in
    let l = c.loop-row in
    let all = YieldsList-end (YieldsList-from_rev_slice (rows_of a.kind Header) (search rules)) l.yielded _ l.yielded_by _ _ c.in-None.is c.next.ensures.steps in
    laid_end a.kind Header (header_fill a.kind (given a.head)) (length l.yielded) l.rec (all.1 ∙ length-reverse (rows_of a.kind Header)) l.invariant.0 l.invariant.1
