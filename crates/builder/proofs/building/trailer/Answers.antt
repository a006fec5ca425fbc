-- Row by row, from the last one on.
use Rattle.std.proofs.Common.{◌≡◌, ◌∙◌, sym, length, [], ◌∷◌, arith, rules}
use Rattle.std.proofs.lemmas.Iterator.Adapters.{YieldsList-from_rev_slice}
use Rattle.std.proofs.lemmas.Iterator.Consumers.{YieldsList-turn, YieldsList-end}
use Rattle.std.proofs.lemmas.List.{length-append, length-replicate, length-reverse}
use lib.ListN.{replicate}
use Rattle.kinds.specs.Kinds.{fixed_of}
use Rattle.kinds.specs.declared.of_files.Role.TheVariants.{Trailer}
use Rattle.tables.specs.Rows.{blank}
use Rattle.tables.specs.Tables.{rows_of}
use Rattle.builder.specs.Records.{trailer_by, trailer_byte, trailer_built}
use Rattle.builder.proofs.Laying.{back_turn, next_inside, laid_start, laid_more, laid_end}
use Rattle.builder.proofs.Sizes.{size-most}
use Rattle.builder.proofs.building.trailer.Goals as goal

pub loop-row-init : goal.loop-row-init
loop-row-init g c =
    let a = c.args in
    let long : length (replicate g.row.N 0) ≡ (fixed_of a.kind).size = rw length-replicate (sym c.requires) in
    (long, laid_start a.kind Trailer (trailer_by a.kind a.header.now a.sums) (replicate g.row.N 0) long)

pub put_trailer_row-requires : goal.put_trailer_row-requires
put_trailer_row-requires g c =
    let a = c.args in
    let l = c.loop-row in
    let some = c.in-Some in
    let turn =
    back_turn (rows_of a.kind Trailer) blank (length l.yielded) some.row.now
    (YieldsList-turn (YieldsList-from_rev_slice (rows_of a.kind Trailer) (search rules)) l.yielded _ l.yielded_by _ _ some.row some.is c.next.ensures.steps) in
    let within = next_inside a.kind Trailer (trailer_by a.kind a.header.now a.sums) (length l.yielded) some.row.now turn in
    record {
      row_in_bounds = omega (arith, within, l.invariant.0);
      row_bound = omega (arith, within, size-most a.kind);
    }

pub loop-row-preserved : goal.loop-row-preserved
loop-row-preserved g c =
    let a = c.args in
    let l = c.loop-row in
    let some = c.in-Some in
    let turn =
    back_turn (rows_of a.kind Trailer) blank (length l.yielded) some.row.now
    (YieldsList-turn (YieldsList-from_rev_slice (rows_of a.kind Trailer) (search rules)) l.yielded _ l.yielded_by _ _ some.row some.is c.next.ensures.steps) in
    rw (length-append l.yielded (some.row ∷ []))
    (laid_more a.kind Trailer (trailer_by a.kind a.header.now a.sums) (length l.yielded) some.row.now turn l.rec _ l.invariant.0 c.put_trailer_row.ensures l.invariant.1)

pub returns : goal.returns
unfolding trailer_built trailer_byte trailer_by
returns g c =
    let a = c.args in
    let l = c.loop-row in
    let all = YieldsList-end (YieldsList-from_rev_slice (rows_of a.kind Trailer) (search rules)) l.yielded _ l.yielded_by _ _ c.in-None.is c.next.ensures.steps in
    laid_end a.kind Trailer (trailer_by a.kind a.header.now a.sums) (length l.yielded) l.rec (all.1 ∙ length-reverse (rows_of a.kind Trailer)) l.invariant.0 l.invariant.1
