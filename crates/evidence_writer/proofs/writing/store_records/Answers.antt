-- One record behind the other.
use Prim.Native.Nat.{◌+◌, ◌*◌, ◌≤◌}
use lib.ListN.{length}
use mathlib.Core.Path.{◌≡◌, refl, sym}
use native.Mathlib.Omega.{arith}
use borrow.Author.Rules.{rules}
use Rattle.laws.specs.Joined.{joined}
use Rattle.laws.specs.Stored.{stored}
use Rattle.laws.proofs.Joins.{joined-start, joined-more}
use Rattle.evidence.specs.Blocks.{block, blocks_for}
use Rattle.evidence.proofs.Walks.{blocks-tight}
use Rattle.evidence_units.specs.Units.{said_at}
use Rattle.evidence_builder.specs.Units.{said_by, unit_of}
use Rattle.evidence_builder.specs.Files.{record_of}
use Rattle.evidence_builder.proofs.Walked.{place-first, place-more}
use Rattle.laws.proofs.Stores.{stored-then, stored-none}
use Rattle.evidence_writer.proofs.Built.{records-long}
use Rattle.evidence_writer.proofs.Units.{blocks-first, blocks_more, blocks-up}
use Rattle.evidence_writer.proofs.writing.store_records.Goals as goal

pub loop-i-init : goal.loop-i-init
loop-i-init c =
    let t = c.args in
    let x = t.x.now in
    (sym (place-first x), rw (blocks-first x), refl, rw (joined-start (record_of t.code.now x)) (stored-none block t.room.now))

pub said-said-requires : goal.said-said-requires
unfolding said_by
said-said-requires c =
    let inside : c.loop-i.p + (74 + said_at c.args.x.now c.loop-i.p) ≤ length c.args.x.now =
    rw c.loop-i.invariant.0 (c.requires.whole c.loop-i.i c.loop-i-test.true) in
    omega (arith, inside)

pub part-requires : goal.part-requires
unfolding said_by
part-requires c =
    let inside : c.loop-i.p + (74 + said_at c.args.x.now c.loop-i.p) ≤ length c.args.x.now =
    rw c.loop-i.invariant.0 (c.requires.whole c.loop-i.i c.loop-i-test.true) in
    rw c.said-said.ensures.value (inside)

pub put_record-requires : goal.put_record-requires
unfolding said_by
put_record-requires c =
    let room-left : c.loop-i.at + blocks_for (said_at c.args.x.now c.loop-i.p) * block ≤ length c.loop-i.room =
    let l = c.loop-i in
    rw l.invariant.0 (omega (arith, blocks-up c.args.x.now c.args.n l.i c.loop-i-test.true, c.requires.block_in_bounds, l.invariant.1, l.invariant.2)) in
    record {
      code_len = c.requires.code_len;
      unit_len = c.part.ensures.result_len;
      said_bound = c.said-said.ensures.upper_bound;
      block_in_bounds = rw c.said-said.ensures.value (room-left);
    }

pub overflow_add-p-in-loop-i : goal.overflow_add-p-in-loop-i
unfolding said_by
overflow_add-p-in-loop-i c =
    let inside : c.loop-i.p + (74 + said_at c.args.x.now c.loop-i.p) ≤ length c.args.x.now =
    rw c.loop-i.invariant.0 (c.requires.whole c.loop-i.i c.loop-i-test.true) in
    omega (arith, c.said-said.ensures.value, inside)

pub overflow_mul-at : goal.overflow_mul-at
overflow_mul-at c = omega (arith, c.blocks_for.ensures, blocks-tight c.said-said.result, c.said-said.ensures.upper_bound)

pub overflow_add-at : goal.overflow_add-at
unfolding said_by
overflow_add-at c =
    let room-left : c.loop-i.at + blocks_for (said_at c.args.x.now c.loop-i.p) * block ≤ length c.loop-i.room =
    let l = c.loop-i in
    rw l.invariant.0 (omega (arith, blocks-up c.args.x.now c.args.n l.i c.loop-i-test.true, c.requires.block_in_bounds, l.invariant.1, l.invariant.2)) in
    rw (c.blocks_for.ensures, c.said-said.ensures.value) (omega (arith, room-left))

pub loop-i-preserved : goal.loop-i-preserved
unfolding said_by unit_of record_of
loop-i-preserved c =
    let e = c.said-said.ensures.value in
    let l = c.loop-i in
    let x = c.args.x.now in
    let code = c.args.code.now in
    let i = l.i in
    let last = c.put_record.new.room in
    let long = records-long code c.requires.code_len x i (λ j h. c.requires.whole j (omega (arith, h, c.loop-i-test.true))) in
    let more : last ≡ stored l.at (record_of code x i) l.room = rw (← l.invariant.0, ← e, ← c.part.ensures.result_value) c.put_record.ensures in (
      rw (place-more x i, ← l.invariant.0, e),
      rw (blocks_more x i, ← l.invariant.0, ← e, ← c.blocks_for.ensures) (omega (arith, l.invariant.1)),
      search rules,
      rw (joined-more (record_of code x) i) (stored-then block l.at (joined (record_of code x) i) (record_of code x i) c.args.room.now l.room last l.invariant.3 more (omega (arith, long, l.invariant.1)) (omega (arith, c.requires.block_in_bounds))),
    )

pub shape_of-room : goal.shape_of-room
shape_of-room c = c.loop-i.invariant.2

pub returns : goal.returns
returns c =
    let l = c.loop-i in
    let e : c.args.n ≡ l.i = omega (arith, l.auto.i-end, c.loop-i-test.false) in
    rw e l.invariant.3
