-- Read, then written: an evidence file that is accepted, taken apart, is written again byte by byte.
-- Assumes nothing.
use Prim.Native.Nat.{ℕ, zero, suc, ◌+◌, ◌-◌, ◌*◌, ◌≤◌, ◌<◌}
use mathlib.Core.Bool.{Bool, false}
use mathlib.Core.List.{List, ◌++◌, append_assoc, append-nil}
use mathlib.Core.Path.{◌≡◌, refl, sym, ◌∙◌, ap}
use native.Mathlib.Nat.{le_refl}
use native.Mathlib.Omega.{arith}
use borrow.Author.Tests.{le-leb, lt-leb}
use lib.ListN.{length, get_or, take, drop, length-drop, take-append-drop}
use lib.Seq.{take_all, take-add, take_at}
use Rattle.laws.specs.Joined.{joined}
use Rattle.laws.specs.Part.{part}
use Rattle.laws.specs.Sum.{sum}
use Rattle.laws.proofs.Joins.{joined-long, joined-piece}
use Rattle.laws.proofs.Leasts.{least-stop, least-none}
use Rattle.laws.proofs.Parts.{part_length, part_at, part-part, drop-part}
use Rattle.laws.proofs.Sums.{sum-up}
use Rattle.laws.proofs.Pieces.{part-two}
use Rattle.numbers.specs.Numbers.{value_of}
use Rattle.text.specs.Characters.{spaces}
use Rattle.text.proofs.Classes.{only-is}
use Rattle.kinds.specs.Kinds.{limit}
use Rattle.answers.specs.Answers.{accepted}
use Rattle.answers.specs.Storing.{unless_refused}
use Rattle.answers.proofs.Refusals.{number_of, then-second, refuses-not}
use Rattle.evidence.specs.Blocks.{block, front, blocks_for, blocks_in, last_block, data_blocks, block_at, length_at, kind_at, next_of, start_of, records_in, evidence_length, evidence_in}
use Rattle.evidence.specs.Judged.{filler_at, byte_of}
use Rattle.evidence.specs.Reading.{read_of}
use Rattle.evidence.specs.Reading as reading
use Rattle.evidence.specs.Stages.{Stages}
use Rattle.evidence.proofs.Walks.{block_inside, blocks-enough}
use Rattle.evidence.proofs.Stages.{stages-exact}
use Rattle.evidence.proofs.Exact.{start-last}
use Rattle.evidence_units.specs.Units.{items, said_at, sort_at, evidence_at}
use Rattle.evidence_builder.specs.Units.{place_of, done_at, said_by, unit_of, units_in, blocks_to}
use Rattle.evidence_builder.specs.Files.{blanks, institution_of, header_block, record_front, record_of, trailer_block, file_of}
use Rattle.evidence_builder.proofs.Written.{front_length}
use Rattle.evidence_writer.specs.Writing.{key_of, decided, write_told, write_stored, write_after}
use Rattle.evidence_writer.specs.Given.{UnitGood, Given}
use Rattle.evidence_writer.specs.Apart.{date_in, code_in, unit_in, units_of, Again}
use Rattle.evidence_writer.proofs.Fixed.{institution-is, header_is, front-is, trailer-is}
use Rattle.evidence_writer.proofs.Decides.{given-decided}

module _ (exempt : Bool) (s : List ℕ) (m : Stages exempt s) where
  -- record i + 1 lies in the file with all of its blocks
  record-inside : (i : ℕ) → i < records_in s → byte_of s i + blocks_for (evidence_length s i) * block ≤ length s
  unfolding next_of byte_of
  record-inside i h = omega (arith, m.sizes.whole, m.sizes.fewest, (m.each i h).inside)

  -- what is taken of it
  unit-long : (i : ℕ) → i < records_in s → length (unit_in s i) ≡ items + evidence_length s i
  unfolding unit_in
  unit-long i h = part_length (byte_of s i + 45) (items + evidence_length s i) s (omega (arith, record-inside i h, blocks-enough (evidence_length s i)))

  -- all units before unit i
  abbrev before : ℕ → ℕ
  before i = sum (λ j. length (unit_in s j)) i

  units-long : length (units_of s) ≡ before (records_in s)
  unfolding units_of
  units-long = joined-long (unit_in s) (records_in s)

  -- unit i stands behind them, and a part of it is a part of the file
  unit-stands : (i : ℕ) → i < records_in s → part (before i) (length (unit_in s i)) (units_of s) ≡ unit_in s i
  unfolding units_of
  unit-stands i h = joined-piece (unit_in s) (records_in s) i h

  unit-part : (i a c : ℕ) → i < records_in s → a + c ≤ items + evidence_length s i → part (before i + a) c (units_of s) ≡ part (byte_of s i + (45 + a)) c s
  unfolding unit_in
  unit-part i a c h l =
      let long = unit-long i h in
      sym (part-part a c (before i) (length (unit_in s i)) (units_of s) (omega (arith, long, l)) (omega (arith, units-long, sum-up (λ j. length (unit_in s j)) (records_in s) i h))) ∙
      (ap (part a c) (unit-stands i h) ∙
      (part-part a c (byte_of s i + 45) (items + evidence_length s i) s l (omega (arith, record-inside i h, blocks-enough (evidence_length s i))) ∙
      ap (λ (p : ℕ). part p c s) (omega arith)))

  unit-says : (i : ℕ) → i < records_in s → said_at (units_of s) (before i) ≡ evidence_length s i
  unfolding said_at length_at byte_of
  unit-says i h = ap value_of (unit-part i 67 7 h (omega arith))

  -- so the walk from unit to unit meets it there
  places : (i : ℕ) → i ≤ records_in s → place_of (units_of s) i ≡ before i
  unfolding place_of sum
  places zero h = refl
  places (suc i) h = rw (places i (omega arith), unit-says i h) (omega (arith, unit-long i h))

  said : (i : ℕ) → i < records_in s → said_by (units_of s) i ≡ evidence_length s i
  unfolding said_by
  said i h = rw (places i (omega arith)) (unit-says i h)

  pub unit-again : (i : ℕ) → i < records_in s → unit_of (units_of s) i ≡ unit_in s i
  unfolding unit_of
  unit-again i h = rw (said i h, places i (omega arith), ← unit-long i h) (unit-stands i h)

  -- and ends behind the last
  pub units-again : units_in (units_of s) ≡ records_in s
  unfolding units_in done_at
  units-again =
      least-stop (done_at (units_of s)) (records_in s) (limit + 1) (omega (arith, m.few))
      (least-none (done_at (units_of s)) (records_in s) under)
      (le-leb (length (units_of s)) (place_of (units_of s) (records_in s)) (omega (arith, units-long, places (records_in s) (le_refl (records_in s)))))
    where
      under : (i : ℕ) → i < records_in s → done_at (units_of s) i ≡ false
      under i h =
          lt-leb (length (units_of s)) (place_of (units_of s) i)
          (omega (arith, units-long, places i (omega arith), unit-long i h, sum-up (λ j. length (unit_in s j)) (records_in s) i h))

  -- the header
  block-long : (b : ℕ) → b < blocks_in s → length (block_at s b) ≡ block
  unfolding block_at
  block-long b h = part_length (b * block) block s (omega (arith, block_inside s b h))

  header-long : length (block_at s 0) ≡ block
  header-long = block-long 0 (omega (arith, m.sizes.fewest))

  date-is : part 15 8 (block_at s 0) ≡ date_in s
  unfolding block_at date_in
  date-is = part-part 15 8 0 block s (omega arith) (omega (arith, m.sizes.whole, m.sizes.fewest))

  code_is : part 23 10 (block_at s 0) ≡ code_in s
  unfolding block_at code_in
  code_is = part-part 23 10 0 block s (omega arith) (omega (arith, m.sizes.whole, m.sizes.fewest))

  institution-again : part 23 20 (block_at s 0) ≡ institution_of (code_in s)
  institution-again = institution-is (block_at s 0) header-long m.header ∙ ap institution_of code_is

  pub header-again : header_block (date_in s) (code_in s) (records_in s) ≡ block_at s 0
  header-again = sym (header_is (block_at s 0) header-long m.header (records_in s) m.counts.header ∙ rw (date-is, code_is))

  date-long : length (date_in s) ≡ 8
  date-long = sym (ap length date-is) ∙ part_length 15 8 (block_at s 0) (omega (arith, header-long))

  code-long : length (code_in s) ≡ 10
  code-long = sym (ap length code_is) ∙ part_length 23 10 (block_at s 0) (omega (arith, header-long))

  -- items 1 to 12 of a record
  front-again : (i : ℕ) → i < records_in s → part (byte_of s i) front s ≡ record_front (code_in s) (i + 1) ++ part (byte_of s i + 45) items s
  unfolding byte_of
  front-again i h =
      let fits : byte_of s i + front ≤ length s = omega (arith, record-inside i h, blocks-enough (evidence_length s i)) in
      front-is exempt (part (byte_of s i) front s) (block_at s 0) (code_in s) (i + 1) (rw (part_length (byte_of s i) front s fits) (omega arith)) (m.each i h).rows institution-again ∙
      ap (λ (y : List ℕ). record_front (code_in s) (i + 1) ++ y) (drop-part 45 (byte_of s i) front s (omega arith) fits)

  front-part : (i : ℕ) → i < records_in s → part (byte_of s i) 45 s ≡ record_front (code_in s) (i + 1)
  front-part i h =
      let b = byte_of s i in
      let long = part_length b 45 s (omega (arith, record-inside i h, blocks-enough (evidence_length s i))) in
      sym (take_at (part b 45 s) (part (b + 45) items s) 45 long) ∙
      (ap (take 45) (sym (part-two b 45 items s) ∙ front-again i h) ∙
      take_at (record_front (code_in s) (i + 1)) (part (b + 45) items s) 45 (front_length (code_in s) (i + 1) code-long))

  filler-is : (i : ℕ) → i < records_in s → filler_at s (start_of s i) ≡ blanks (blocks_for (evidence_length s i) * block - (front + evidence_length s i))
  unfolding filler_at spaces byte_of
  filler-is i h =
      only-is 0x20 _ (filler_at s (start_of s i))
      (part_length _ _ s (omega (arith, record-inside i h, blocks-enough (evidence_length s i)))) (m.each i h).filler

  -- a record
  pub record-again : (i : ℕ) → i < records_in s → record_of (code_in s) (units_of s) i ≡ part (byte_of s i) (blocks_for (evidence_length s i) * block) s
  unfolding record_of filler_at byte_of unit_in
  record-again i h =
      let b = byte_of s i in
      let l = evidence_length s i in
      let rest = blocks_for l * block - (front + l) in
      let all : 45 + ((items + l) + rest) ≡ blocks_for l * block = omega (arith, blocks-enough l) in
      let there : b + 45 + (items + l) ≡ b + (front + l) = omega arith in
      rw (said i h, unit-again i h, ← front-part i h, ← filler-is i h)
      (ap (λ (p : ℕ). part b 45 s ++ (unit_in s i ++ part p rest s)) (sym there) ∙
      (ap (λ (y : List ℕ). part b 45 s ++ y) (sym (part-two (b + 45) (items + l) rest s)) ∙
      (sym (part-two b 45 ((items + l) + rest) s) ∙ ap (λ (w : ℕ). part b w s) all)))

  -- the blocks of the records before record i + 1, and all of them
  starts : (i : ℕ) → i ≤ records_in s → start_of s i ≡ 1 + blocks_to (units_of s) i
  unfolding start_of next_of blocks_to sum
  starts zero h = refl
  starts (suc i) h = omega (arith, starts i (omega arith), ap blocks_for (said i h))

  pub blocks-again : blocks_to (units_of s) (records_in s) ≡ data_blocks s
  blocks-again = omega (arith, starts (records_in s) (le_refl (records_in s)), start-last exempt s m, m.sizes.fewest)

  -- the trailer
  pub trailer-again : trailer_block (code_in s) (records_in s) (data_blocks s) ≡ block_at s (last_block s)
  trailer-again =
      sym (trailer-is (block_at s (last_block s)) (block_at s 0) (code_in s) (records_in s) (data_blocks s) (block-long (last_block s) (omega (arith, m.sizes.fewest)))
      m.trailer institution-again m.counts.trailer m.counts.blocks)

  -- up to record i + 1 the file is what is written
  written-to : (i : ℕ) → i ≤ records_in s → block_at s 0 ++ joined (record_of (code_in s) (units_of s)) i ≡ take (byte_of s i) s
  unfolding joined block_at part byte_of start_of next_of
  written-to zero h = append-nil (take block s)
  written-to (suc i) h =
      let k = blocks_for (evidence_length s i) * block in
      let e : byte_of s i + k ≡ byte_of s (suc i) = omega arith in
      sym (append_assoc (block_at s 0) (joined (record_of (code_in s) (units_of s)) i) (record_of (code_in s) (units_of s) i)) ∙
      (rw (written-to i (omega arith), record-again i h) (sym (take-add (byte_of s i) k s)) ∙ ap (λ (w : ℕ). take w s) e)

  trailer-rest : block_at s (last_block s) ≡ drop (byte_of s (records_in s)) s
  unfolding block_at part byte_of
  trailer-rest = rw (start-last exempt s m) (take_all block (drop (last_block s * block) s) (rw length-drop (omega (arith, m.sizes.whole, m.sizes.fewest))))

  -- *Taken apart, written*: the file that is written of its parts is the file
  pub file-again : file_of (date_in s) (code_in s) (units_of s) ≡ s
  unfolding file_of
  file-again =
      rw (units-again, header-again, blocks-again, trailer-again, ← append_assoc (block_at s 0), written-to (records_in s) (le_refl (records_in s)), trailer-rest)
      (take-append-drop (byte_of s (records_in s)) s)

  -- what is taken of a record, from its front on
  unit-front : (i c : ℕ) → i < records_in s → c ≤ items → part (place_of (units_of s) i) c (units_of s) ≡ part (byte_of s i + 45) c s
  unit-front i c h l =
      let p : place_of (units_of s) i ≡ before i + 0 = omega (arith, places i (omega arith)) in
      ap (λ (a : ℕ). part a c (units_of s)) p ∙ unit-part i 0 c h (omega arith)

  unit-sort : (i : ℕ) → i < records_in s → sort_at (units_of s) (place_of (units_of s) i) ≡ kind_at s (start_of s i)
  unfolding sort_at kind_at byte_of
  unit-sort i h =
      let p = place_of (units_of s) i in
      sym (part_at p items (units_of s) 61 (omega arith)) ∙
      (ap (λ (y : List ℕ). get_or y 61 0) (unit-front i items h (omega arith)) ∙
      (part_at (byte_of s i + 45) items s 61 (omega arith) ∙ ap (λ (a : ℕ). get_or s a 0) (omega arith)))

  unit-evidence : (i : ℕ) → i < records_in s → evidence_at (units_of s) (place_of (units_of s) i) ≡ evidence_in s i
  unfolding evidence_at evidence_in said_by byte_of
  unit-evidence i h = rw (said i h, places i (omega arith)) (unit-part i items (evidence_length s i) h (omega arith) ∙ ap (λ (a : ℕ). part a (evidence_length s i) s) (omega arith))

  unit-key : (i : ℕ) → i < records_in s → key_of (units_of s) i ≡ reading.key_of s i
  unfolding key_of reading.key_of
  unit-key i h = unit-front i 61 h (omega arith)

  -- *Taken apart, given*: the parts of an accepted file are given well
  pub apart-given : Given exempt (date_in s) (code_in s) (units_of s)
  unfolding byte_of
  apart-given = record {
    date-long = date-long;
    code-long = code-long;
    header = rw (units-again, header-again) m.header;
    few = rw units-again m.few;
    each = rw (units-again, header-again) each;
    most = rw (units-again, blocks-again) (omega (arith, m.sizes.most));
    keys = rw units-again (λ i j a b e. m.keys i j a b (sym (unit-key i a) ∙ (e ∙ unit-key j b)));
    signed = rw units-again (λ i h. rw (unit-sort i h, unit-evidence i h) (m.signed i h));
  }
    where
      each : (i : ℕ) → i < records_in s → UnitGood exempt (block_at s 0) (code_in s) (units_of s) i
      each i h = record {
        rows = rw (unit-front i items h (omega arith), ← front-again i h) (m.each i h).rows;
        size = rw (unit-sort i h, said i h) (m.each i h).size;
        inside = rw (said i h, places i (omega arith)) (omega (arith, units-long, unit-long i h, sum-up (λ j. length (unit_in s j)) (records_in s) i h));
      }

-- *Read, written*: an accepted file, taken apart, is accepted by the writer, which stores the same file
pub taken-written : (exempt : Bool) (s : List ℕ) → read_of exempt s ≡ accepted → Again exempt s
unfolding write_told write_after write_stored unless_refused
taken-written exempt s e = record {
  good = good;
  same = same;
  told = told;
  stored = λ room l. rw (told (length room) l, refuses-not accepted refl, same);
}
  where
    m : Stages exempt s
    m = (stages-exact exempt s).0 e

    good : decided exempt (date_in s) (code_in s) (units_of s) ≡ accepted
    good = given-decided exempt (date_in s) (code_in s) (units_of s) (apart-given exempt s m)

    same : file_of (date_in s) (code_in s) (units_of s) ≡ s
    same = file-again exempt s m

    told : (room : ℕ) → length s ≤ room → write_told exempt (date_in s) (code_in s) (units_of s) room ≡ accepted
    told room l = then-second _ _ (number_of good) ∙ rw (same, le-leb (length s) room l)
