-- What is stored: a front with its items, records one behind the other, and the file at the front of the room.
-- Assumes nothing.
use Prim.Native.Nat.{ℕ, ◌+◌, ◌*◌, ◌≤◌, zero-le}
use mathlib.Core.Bool.{Bool}
use mathlib.Core.List.{List, ◌++◌}
use mathlib.Core.Path.{◌≡◌, sym, ◌∙◌, ap}
use native.Mathlib.Omega.{arith}
use lib.ListN.{length, length-append}
use Rattle.laws.specs.Joined.{joined}
use Rattle.laws.specs.Part.{part}
use Rattle.laws.specs.Stored.{stored}
use Rattle.laws.proofs.Parts.{part_length}
use Rattle.laws.proofs.Stores.{stored-then, stored-all}
use Rattle.answers.specs.Storing.{Stored, room_tells}
use Rattle.answers.proofs.Stored.{Told}
use Rattle.evidence.specs.Blocks.{block}
use Rattle.evidence_units.specs.Units.{items}
use Rattle.evidence_builder.specs.Units.{units_in, blocks_to}
use Rattle.evidence_builder.specs.Files.{header_block, record_front, record_of, trailer_block, file_of}
use Rattle.evidence_builder.proofs.Written.{front_length}
use Rattle.evidence_writer.specs.Writing.{decided, write_told, write_stored, write_of, write_after}
use Rattle.evidence_writer.specs.Given.{Given}
use Rattle.evidence_writer.proofs.Built.{header-long, records-long, given-whole}

-- a header fills its block
pub header-stored :
    (date code old last : List ℕ) (n m : ℕ) → length date ≡ 8 → length code ≡ 10 → length old ≡ block → n ≡ m →
    last ≡ stored 0 (header_block date code n) old → last ≡ header_block date code m
header-stored date code old last n m d c long same e =
    e ∙ (stored-all (header_block date code n) old (header-long code c date n d ∙ sym long) ∙ ap (header_block date code) same)

-- items 1 to 5, and a unit's items behind them, fill 119 bytes
module _ (code x old with-front last : List ℕ) (p n : ℕ)
    (coded : length code ≡ 10)
    (inside : p + 74 ≤ length x)
    (long : length old ≡ 119)
    (front : with-front ≡ stored 0 (record_front code n) old)
    (behind : last ≡ stored 45 (part p items x) with-front)
  where
    items-long : length (record_front code n ++ part p items x) ≡ 119
    items-long = length-append (record_front code n) (part p items x) ∙ omega (arith, front_length code n coded, part_length p items x inside)

    pub items-stored : last ≡ record_front code n ++ part p items x
    items-stored =
        stored-then 0 45 (record_front code n) (part p items x) old with-front last front behind (omega (arith, front_length code n coded)) zero-le ∙
        stored-all (record_front code n ++ part p items x) old (items-long ∙ sym long)

    pub items-fill : length last ≡ 119
    items-fill = rw items-stored items-long

module _ (exempt : Bool) (date code x : List ℕ) where
  -- header, records and trailer are the file
  pub file-stored :
      (room headed filled last : List ℕ) → Given exempt date code x →
      headed ≡ stored 0 (header_block date code (units_in x)) room →
      filled ≡ stored block (joined (record_of code x) (units_in x)) headed →
      last ≡ stored (block + blocks_to x (units_in x) * block) (trailer_block code (units_in x) (blocks_to x (units_in x))) filled →
      block ≤ length headed → last ≡ stored 0 (file_of date code x) room
  unfolding file_of
  file-stored room headed filled last g h r t fits =
      let n = units_in x in
      let records = joined (record_of code x) n in
      let trailer = trailer_block code n (blocks_to x n) in
      stored-then 0 block (header_block date code n) (records ++ trailer) room headed last h
      (stored-then block (block + blocks_to x n * block) records trailer headed filled last r t
      (omega (arith, records-long code g.code-long x n (given-whole exempt date code x g))) fits)
      (omega (arith, header-long code g.code-long date n g.date-long)) zero-le

  -- what is told of a decision and of the room, and what the room holds, is what writing says
  pub written : (room : List ℕ) (t : Stored) (after : List ℕ) → Told (decided exempt date code x) (file_of date code x) room t after → (t ≡ write_of exempt date code x (length room)) × (after ≡ write_after exempt date code x room)
  unfolding write_of write_after write_stored write_told room_tells
  written room t after q = q
