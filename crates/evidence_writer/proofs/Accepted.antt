-- What is written reads as accepted, and holds what was given.
-- Assumes nothing.
use Prim.Native.Nat.{ℕ, ◌+◌, ◌*◌, ◌^◌, ◌≤◌, ◌<◌}
use mathlib.Core.Bool.{Bool, true}
use mathlib.Core.List.{List, ◌++◌}
use mathlib.Core.Path.{◌≡◌, refl, sym, ◌∙◌, ap}
use native.Mathlib.Omega.{arith}
use borrow.Author.Tests.{lt-ltb}
use lib.ListN.{length}
use Rattle.laws.specs.Joined.{joined}
use Rattle.laws.specs.Part.{part}
use Rattle.laws.proofs.Parts.{part-part}
use Rattle.laws.proofs.Joins.{joined_same}
use Rattle.laws.proofs.Sums.{sum_same}
use Rattle.laws.proofs.Pieces.{part-within}
use Rattle.numbers.specs.Numbers.{says, digits_of}
use Rattle.numbers.proofs.Values.{says-within}
use Rattle.answers.specs.Answers.{accepted}
use Rattle.evidence.specs.Blocks.{block, blocks_for, records_in}
use Rattle.evidence.specs.Judged.{byte_of}
use Rattle.evidence.specs.Reading.{read_of}
use Rattle.evidence.specs.Meets
use Rattle.evidence.specs.Meets.{blocks_of, Composed}
use Rattle.evidence.proofs.Walks.{blocks-enough}
use Rattle.evidence.proofs.Exact.{stands, room, stands-says, starts, counted, read-exact}
use Rattle.evidence_units.specs.Units.{items}
use Rattle.evidence_builder.specs.Units.{said_by, unit_of, units_in, blocks_to}
use Rattle.evidence_builder.specs.Files.{header_block, record_of, trailer_block, file_of}
use Rattle.evidence_writer.specs.Writing.{Whole}
use Rattle.evidence_writer.specs.Given.{Given}
use Rattle.evidence_writer.specs.Apart.{date_in, code_in, unit_in, units_of, Holds}
use Rattle.evidence_writer.proofs.Built.{units-all, header-long, trailer-long, given-whole}
use Rattle.evidence_writer.proofs.Said.{record-unit, record-length, record-key, record-kind, record-evidence, record-fits}
use Rattle.evidence_writer.proofs.Ends
use Rattle.evidence_writer.proofs.Trailer.{header-good, trailer-rows}

-- digits enough say their number
pub digits-say : (w n : ℕ) → w ≤ 19 → n < 10 ^ w → says (digits_of w n) n ≡ true
digits-say w n h l = says-within w n h ∙ lt-ltb n (10 ^ w) l

-- its records have the blocks of the units
pub blocks-same : (code x : List ℕ) (n : ℕ) → length code ≡ 10 → Whole x n → Meets.blocks_to (record_of code x) n ≡ blocks_to x n
unfolding blocks_to
blocks-same code x n coded whole =
    sum_same (λ i. blocks_of (record_of code x i)) (λ i. blocks_for (said_by x i)) n (λ i h. ap blocks_for (record-length code x i coded (whole i h)))

module _ (exempt : Bool) (date code x : List ℕ) (g : Given exempt date code x) where
  abbrev n : ℕ
  n = units_in x

  abbrev H : List ℕ
  H = header_block date code n

  abbrev T : List ℕ
  T = trailer_block code n (blocks_to x n)

  abbrev s : List ℕ
  s = file_of date code x

  whole : Whole x n
  whole = given-whole exempt date code x g

  -- it is composed of what the records say
  pub written-composed : Composed exempt s H T n (record_of code x)
  unfolding file_of
  written-composed =
      let blocks = blocks-same code x n g.code-long whole in
      record {
        all = refl;
        header-long = header-long code g.code-long date n g.date-long;
        trailer-long = trailer-long code g.code-long n (blocks_to x n);
        few = g.few;
        most = rw blocks g.most;
        header-rows = g.header;
        entries = λ i h. record-fits exempt H code x i g.code-long (g.each i h);
        trailer-rows =
            trailer-rows code n (blocks_to x n) g.code-long H (n + 1)
            (header-good date code n g.date-long g.code-long g.header)
            (Ends.header-institution date code n g.date-long g.code-long);
        header-count = rw (Ends.header-count date code n g.date-long g.code-long) (digits-say 7 n (omega arith) (omega arith));
        trailer-count = rw (Ends.trailer-count code n (blocks_to x n) g.code-long) (digits-say 7 n (omega arith) (omega arith));
        trailer-blocks =
            rw (blocks, Ends.trailer-blocks code n (blocks_to x n) g.code-long)
            (digits-say 10 (blocks_to x n) (omega arith) (omega arith));
        keys = λ i j a b e.
            g.keys i j a b
            (sym (record-key code x i g.code-long (whole i a)) ∙ (e ∙ record-key code x j g.code-long (whole j b)));
        signed = λ i h.
            rw (record-length code x i g.code-long (whole i h), record-kind code x i g.code-long (whole i h), record-evidence code x i g.code-long (whole i h))
            (g.signed i h);
      }

  -- *What is written reads*
  pub written-reads : read_of exempt s ≡ accepted
  written-reads = (read-exact exempt s).1 (record { header = H; trailer = T; count = n; entry = record_of code x; composed = written-composed })

  -- unit i stands in it as record i + 1
  unit-held : (i : ℕ) → i < n → unit_in s i ≡ unit_of x i
  unfolding unit_in byte_of
  unit-held i h =
      let entry = record_of code x in
      let c = written-composed in
      let said = record-length code x i g.code-long (whole i h) in
      let b = 1 + Meets.blocks_to entry i in
      let fits : 45 + (items + said_by x i) ≤ blocks_of (entry i) * block = rw said (omega (arith, blocks-enough (said_by x i))) in
      rw (starts exempt s H T n entry c i (omega arith), stands-says exempt s H T n entry c i h, said)
      (sym (part-part 45 (items + said_by x i) (b * block) (blocks_of (entry i) * block) s fits (room exempt s H T n entry c i h)) ∙
      (ap (part 45 (items + said_by x i)) (stands exempt s H T n entry c i h) ∙ record-unit code x i g.code-long (whole i h)))

  -- *and holds what was given*
  pub written-holds : Holds exempt date code x s
  unfolding date_in code_in units_of file_of
  written-holds = record {
    good = written-reads;
    date-held = part-within H later 15 8 (omega (arith, long)) ∙ Ends.header-date date code n g.date-long g.code-long;
    code-held = part-within H later 23 10 (omega (arith, long)) ∙ Ends.header-code date code n g.date-long g.code-long;
    count = count;
    each = unit-held;
    all = rw count (joined_same (unit_in s) (unit_of x) n unit-held ∙ units-all x g.few whole);
  }
    where
      later : List ℕ
      later = joined (record_of code x) n ++ T

      long : length H ≡ block
      long = header-long code g.code-long date n g.date-long

      count : records_in s ≡ n
      count = counted exempt s H T n (record_of code x) written-composed
