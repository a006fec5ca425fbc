-- Refusals first; then header, records and trailer, which are the file.
use Rattle.std.specs.Prelude.{Err}
use borrow.Author.Rules.{rules}
use Prim.Native.Nat.{◌+◌, ◌-◌, ◌*◌, ◌<◌}
use lib.ListN.{length}
use mathlib.Core.Path.{◌≡◌, refl, ◌∙◌}
use native.Mathlib.Nat.{zero-add}
use native.Mathlib.Omega.{arith}
use Rattle.laws.specs.Joined.{joined}
use Rattle.laws.specs.Stored.{stored}
use Rattle.answers.proofs.Stored.{told-refused, told-8, told-good}
use Rattle.answers.proofs.Tellings.{told-refuses, good}
use Rattle.evidence.specs.Blocks.{block}
use Rattle.evidence_builder.specs.Units.{units_in, blocks_to}
use Rattle.evidence_builder.specs.Files.{header_block, record_of, trailer_block, file_of}
use Rattle.evidence_writer.proofs.Decides.{decided-given}
use Rattle.evidence_writer.proofs.Built.{given-whole, file-long}
use Rattle.evidence_writer.proofs.Stored.{file-stored, written}
use Rattle.evidence_writer.proofs.writing.write.Goals as goal

pub returns-in_err-units : goal.returns-in_err-units
returns-in_err-units c =
    let a = c.args in
    let r = c.in_err-units.field-0.0 in
    let e : c.from_residual.result ≡ Err r = search rules in
    let q = written a.exempt a.date.now a.code.now a.x.now a.room.now _ _ (told-refused _ _ _ _ c.in_err-units.ensures.answer_value (told-refuses r)) in
    rw e (record {
      value = q.0;
      room_after = q.1;
    })

pub overflow_add-size : goal.overflow_add-size
overflow_add-size c =
    let k = c.in_ok-units.ensures in
    omega (arith, k.blocks_value, (decided-given _ _ _ _ (good _ k.answer_value)).most)

pub overflow_mul-size : goal.overflow_mul-size
overflow_mul-size c =
    let k = c.in_ok-units.ensures in
    omega (arith, k.blocks_value, (decided-given _ _ _ _ (good _ k.answer_value)).most)

pub returns-then-room-size : goal.returns-then-room-size
returns-then-room-size c =
    let a = c.args in
    let k = c.in_ok-units.ensures in
    let g = decided-given _ _ _ _ (good _ k.answer_value) in
    let short : length a.room.now < length (file_of a.date.now a.code.now a.x.now) = omega (arith, c.if-room-size.true, k.blocks_value, file-long _ _ _ _ g) in
    let q = written a.exempt a.date.now a.code.now a.x.now a.room.now _ _ (told-8 _ _ _ _ (good _ k.answer_value) short refl) in
    record {
      value = q.0;
      room_after = q.1;
    }

pub put_header-requires : goal.put_header-requires
put_header-requires c =
    let g = decided-given _ _ _ _ (good _ c.in_ok-units.ensures.answer_value) in
    record {
      date_len = g.date-long;
      code_len = g.code-long;
      in_bounds = omega (arith, c.if-room-size.false);
    }

pub store_records-requires : goal.store_records-requires
store_records-requires c =
    let k = c.in_ok-units.ensures in
    let g = decided-given _ _ _ _ (good _ k.answer_value) in
    record {
      code_len = g.code-long;
      whole = λ i l. given-whole _ _ _ _ g i (rw (← k.count_value) l);
      n_bound = rw k.count_value g.most;
      block_in_bounds = rw k.count_value (omega (arith, c.if-room-size.false, k.blocks_value));
    }

pub put_trailer-requires : goal.put_trailer-requires
put_trailer-requires c =
    record {
      code_len = (decided-given _ _ _ _ (good _ c.in_ok-units.ensures.answer_value)).code-long;
      at_in_bounds = omega (arith, c.if-room-size.false);
    }

pub returns : goal.returns
returns c =
    let a = c.args in
    let date = a.date.now in
    let code = a.code.now in
    let x = a.x.now in
    let n = units_in x in
    let k = c.in_ok-units.ensures in
    let b = c.in_ok-units.units.blocks in
    let g = decided-given a.exempt date code x (good _ k.answer_value) in
    let room = a.room.now in
    let headed = c.put_header.new.room in
    let filled = c.store_records.new.room in
    let last = c.put_trailer.new.room in
    let at : (b + 2) * 1024 - 1024 ≡ block + b * block = omega arith in
    let header : headed ≡ stored 0 (header_block date code n) room = rw (← k.count_value) c.put_header.ensures in
    let records : filled ≡ stored block (joined (record_of code x) n) headed = rw (← k.count_value) c.store_records.ensures in
    let trailer : last ≡ stored (block + blocks_to x n * block) (trailer_block code n (blocks_to x n)) filled = rw (← k.blocks_value, ← k.count_value) (rw at at c.put_trailer.ensures) in
    let size : (b + 2) * 1024 ≡ length (file_of date code x) = omega (arith, k.blocks_value, file-long a.exempt date code x g) in
    let fits = c.if-room-size.false in
    let stands = file-stored a.exempt date code x room headed filled last g header records trailer (omega (arith, fits)) in
    let q = written a.exempt date code x room _ last (told-good _ _ _ _ _ _ (good _ k.answer_value) (omega (arith, size, fits)) refl size (stands ∙ rw (zero-add (length (file_of date code x))))) in
    record {
      value = q.0;
      room_after = q.1;
    }
