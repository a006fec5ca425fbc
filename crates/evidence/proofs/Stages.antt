-- What each stage of reading says: size, header, records, trailer, counts, keys, frames. Accepted is that each of them is good.
-- Assumes nothing.
use Prim.Native.Nat.{ℕ, ◌+◌, ◌*◌, ◌%◌, ◌≤◌, ◌<◌}
use mathlib.Core.Bool.{Bool, true, ◌&&◌}
use mathlib.Core.List.{List}
use mathlib.Core.Path.{◌≡◌, refl, ◌∙◌}
use mathlib.Core.Logic.{◌↔◌, ⊎_elim}
use native.Mathlib.Nat.{eq-or-lt_of_le}
use native.Mathlib.Omega.{arith}
use borrow.Author.Tests.{eqb-true, leb-true, lt-ltb, le-ltb, eq-eqb, ne_eqb, le-leb}
use lib.Dec.{eqb, leb}
use lib.ListN.{length}
use Rattle.laws.specs.Least.{least}
use Rattle.laws.specs.Part.{part}
use Rattle.laws.proofs.Bools.{and_left, and_right, either}
use Rattle.laws.proofs.Leasts.{least-is, least-none, least-before}
use Rattle.text.specs.Characters.{spaces}
use Rattle.kinds.specs.Kinds.{limit}
use Rattle.answers.specs.Answers.{accepted, refused, refused_at}
use Rattle.answers.proofs.Refusals.{tested, number_of, then-second, then-zero, all_told, told-all}
use Rattle.evidence_rows.specs.Tables.{header_rows, data_rows, trailer_rows}
use Rattle.layout.proofs.Judged.{judge-exact}
use Rattle.keys.specs.Keys.{repeats_in, Distinct}
use Rattle.keys.proofs.Distinct.{distinct-if, repeat-none}
use Rattle.evidence.specs.Blocks.{block, front, most_blocks, blocks_in, last_block, block_at, length_at, kind_at, next_of, start_of, records_in, evidence_in}
use Rattle.evidence.specs.Judged.{no_own, length_good, header_told, items_told, length_told, filler_at, filler_told, block_told, record_told, records_told, unit_byte, trailer_told}
use Rattle.evidence.specs.Reading.{is_whole, size_told, count_told, counts_told, key_of, repeat_told, keys_told, signed_told, read_of}
use Rattle.evidence.specs.Meets.{RowsHold}
use Rattle.evidence.specs.Stages.{Sizes, Good, Each, Counts, EachSigned, Stages}
use Rattle.evidence_units.specs.Units.{sort_at, evidence_at}
use Rattle.evidence_units.specs.Frames.{SignedIf}
use Rattle.evidence_units.proofs.Framed.{frames-good, good-frames}
use Rattle.evidence.proofs.Walks.{records-most}
use Rattle.evidence.proofs.Units.{unit-kind, unit-evidence}

-- what is told of n keys
module _ (key : ℕ → List ℕ) (n : ℕ) where
  pub repeat-good : (repeat_told n (least (repeats_in key) n)).number ≡ 0 → Distinct key n
  unfolding repeat_told
  repeat-good e = ⊎_elim (λ q. distinct-if key n (least-before (repeats_in key) n q)) found (eq-or-lt_of_le (least-is (repeats_in key) n).within)
    where
      found : least (repeats_in key) n < n → Distinct key n
      found h = absurd (let z : ◌≡◌ {A = ℕ} 7 0 = rw (lt-ltb _ _ h) at e in omega arith)

  pub good-repeat : Distinct key n → repeat_told n (least (repeats_in key) n) ≡ accepted
  unfolding repeat_told
  good-repeat d = rw (least-none (repeats_in key) n (repeat-none key n d), le-ltb n n (omega arith))

  pub bad-repeat : least (repeats_in key) n < n → repeat_told n (least (repeats_in key) n) ≡ refused_at 7 (least (repeats_in key) n + 1) 6 0x30303030
  unfolding repeat_told
  bad-repeat h = rw (lt-ltb _ _ h)

module _ (s : List ℕ) where
  -- the size
  pub whole-fewest : is_whole s ≡ true → (length s ≡ blocks_in s * block) × (2 ≤ blocks_in s)
  unfolding is_whole blocks_in
  whole-fewest t =
      let even = eqb-true (length s % block) 0 (and_left (eqb (length s % block) 0) (leb 2 (blocks_in s)) t) in
      (omega arith, leb-true 2 (blocks_in s) (and_right (eqb (length s % block) 0) (leb 2 (blocks_in s)) t))

  pub size-good : (size_told s).number ≡ 0 → Sizes s
  unfolding size_told
  size-good e = ⊎_elim whole (λ f. absurd (let z : ◌≡◌ {A = ℕ} 2 0 = rw f at e in omega arith)) (either (is_whole s))
    where
      whole : is_whole s ≡ true → Sizes s
      whole t = record {
        whole = (whole-fewest t).0;
        fewest = (whole-fewest t).1;
        most = leb-true _ _ (tested (leb (blocks_in s) (most_blocks + 2)) (refused 3) (λ z. omega arith) (rw t at e));
      }

  pub good-size : Sizes s → size_told s ≡ accepted
  unfolding size_told is_whole
  good-size z =
      let even : length s % block ≡ 0 = omega (arith, z.whole) in
      rw (eq-eqb (length s % block) 0 even, le-leb 2 (blocks_in s) z.fewest, le-leb (blocks_in s) (most_blocks + 2) z.most)

  -- header and trailer
  pub header-exact : ((header_told s).number ≡ 0) ↔ RowsHold header_rows (block_at s 0) (block_at s 0) 0
  unfolding header_told
  header-exact = judge-exact no_own header_rows (block_at s 0) (block_at s 0) 0

  pub trailer-exact : ((trailer_told s).number ≡ 0) ↔ RowsHold trailer_rows (block_at s (last_block s)) (block_at s 0) (records_in s + 1)
  unfolding trailer_told
  trailer-exact = judge-exact no_own trailer_rows (block_at s (last_block s)) (block_at s 0) (records_in s + 1)

  -- the counts
  pub count-good : (t : Bool) (n item : ℕ) → (count_told t n item).number ≡ 0 → t ≡ true
  unfolding count_told
  count-good t n item e = tested t _ (λ z. omega arith) e

  pub good-count : (t : Bool) (n item : ℕ) → t ≡ true → count_told t n item ≡ accepted
  unfolding count_told
  good-count t n item e = rw e

  pub counts-good : (counts_told s).number ≡ 0 → Counts s
  unfolding counts_told
  counts-good e =
      let a = then-zero _ _ e in
      let b = then-zero _ _ a.1 in
      record { header = count-good _ _ _ a.0; trailer = count-good _ _ _ b.0; blocks = count-good _ _ _ b.1 }

  pub good-counts : Counts s → counts_told s ≡ accepted
  unfolding counts_told
  good-counts c =
      then-second _ _ (number_of (good-count _ 0 6 c.header)) ∙
      (then-second _ _ (number_of (good-count _ (records_in s + 1) 5 c.trailer)) ∙ good-count _ (records_in s + 1) 6 c.blocks)

  -- the keys
  pub keys-good : (keys_told s).number ≡ 0 → Distinct (key_of s) (records_in s)
  unfolding keys_told
  keys-good = repeat-good (key_of s) (records_in s)

  pub good-keys : Distinct (key_of s) (records_in s) → keys_told s ≡ accepted
  unfolding keys_told
  good-keys = good-repeat (key_of s) (records_in s)

  pub keys-bad : least (repeats_in (key_of s)) (records_in s) < records_in s → keys_told s ≡ refused_at 7 (least (repeats_in (key_of s)) (records_in s) + 1) 6 0x30303030
  unfolding keys_told
  keys-bad = bad-repeat (key_of s) (records_in s)

  -- the frames
  pub unit-signed : (i : ℕ) → SignedIf (sort_at s (unit_byte s i)) (evidence_at s (unit_byte s i)) ↔ SignedIf (kind_at s (start_of s i)) (evidence_in s i)
  unit-signed i = (λ x. rw (← unit-kind s i, ← unit-evidence s i) x, λ x. rw (unit-kind s i, unit-evidence s i) x)

  pub signed-good : (signed_told s).number ≡ 0 → EachSigned s (records_in s)
  unfolding signed_told
  signed-good e i h = (unit-signed i).0 (frames-good s (unit_byte s) (records_in s) e i h)

  pub good-signed : EachSigned s (records_in s) → signed_told s ≡ accepted
  unfolding signed_told
  good-signed x = good-frames s (unit_byte s) (records_in s) (λ i h. (unit-signed i).1 (x i h))

module _ (exempt : Bool) (s : List ℕ) where
  -- one record
  pub block-good : (b n : ℕ) → (block_told exempt s b n).number ≡ 0 → Good exempt s b n
  unfolding block_told items_told length_told filler_told
  block-good b n e =
      let p = then-zero _ _ e in
      let q = then-zero _ _ p.1 in
      let t = tested (length_good exempt (kind_at s b) (length_at s b) && leb (next_of s b) (last_block s)) _ (λ z. omega arith) q.0 in
      record {
        rows = (judge-exact no_own (data_rows exempt) (part (b * block) front s) (block_at s 0) n).0 p.0;
        size = and_left (length_good exempt (kind_at s b) (length_at s b)) (leb (next_of s b) (last_block s)) t;
        inside = leb-true _ _ (and_right (length_good exempt (kind_at s b) (length_at s b)) (leb (next_of s b) (last_block s)) t);
        filler = tested (spaces (filler_at s b)) _ (λ z. omega arith) q.1;
      }

  pub good-block : (b n : ℕ) → Good exempt s b n → block_told exempt s b n ≡ accepted
  unfolding block_told items_told length_told filler_told
  good-block b n g =
      then-second _ _ ((judge-exact no_own (data_rows exempt) (part (b * block) front s) (block_at s 0) n).1 g.rows) ∙
      rw (g.size, le-leb (next_of s b) (last_block s) g.inside, g.filler) (then-second accepted accepted refl)

  -- the limit's next one is not met
  pub records-good : (records_told exempt s).number ≡ 0 → (records_in s ≤ limit) × Each exempt s (records_in s)
  unfolding records_told record_told
  records-good e = (few, λ i h. block-good (start_of s i) (i + 1) (rw (ne_eqb i limit (λ q. absurd (omega (arith, few)))) at (told i h)))
    where
      told : (i : ℕ) → i < records_in s → (record_told exempt s i).number ≡ 0
      told = all_told (record_told exempt s) (records_in s) e

      few : records_in s ≤ limit
      few = ⊎_elim
          (λ q. absurd (let z : ◌≡◌ {A = ℕ} 3 0 = told limit (omega arith) in omega arith))
          (λ h. omega arith)
          (eq-or-lt_of_le (records-most s))

  pub good-records : records_in s ≤ limit → Each exempt s (records_in s) → records_told exempt s ≡ accepted
  unfolding records_told record_told
  good-records few g =
      told-all (record_told exempt s) (records_in s)
      (λ i h. rw (ne_eqb i limit (λ q. absurd (omega arith))) (number_of (good-block (start_of s i) (i + 1) (g i h))))

  -- accepted is that each stage is good; number 0 is enough
  pub read-good : (read_of exempt s).number ≡ 0 → Stages exempt s
  unfolding read_of
  read-good e =
      let a = then-zero _ _ e in
      let b = then-zero _ _ a.1 in
      let c = then-zero _ _ b.1 in
      let d = then-zero _ _ c.1 in
      let f = then-zero _ _ d.1 in
      let g = then-zero _ _ f.1 in
      record {
        sizes = size-good s a.0;
        header = (header-exact s).0 b.0;
        few = (records-good c.0).0;
        each = (records-good c.0).1;
        trailer = (trailer-exact s).0 d.0;
        counts = counts-good s f.0;
        keys = keys-good s g.0;
        signed = signed-good s g.1;
      }

  pub good-read : Stages exempt s → read_of exempt s ≡ accepted
  unfolding read_of
  good-read m =
      then-second _ _ (number_of (good-size s m.sizes)) ∙
      (then-second _ _ ((header-exact s).1 m.header) ∙
      (then-second _ _ (number_of (good-records m.few m.each)) ∙
      (then-second _ _ ((trailer-exact s).1 m.trailer) ∙
      (then-second _ _ (number_of (good-counts s m.counts)) ∙
      (then-second _ _ (number_of (good-keys s m.keys)) ∙ good-signed s m.signed)))))

  pub stages-exact : (read_of exempt s ≡ accepted) ↔ Stages exempt s
  stages-exact = (λ e. read-good (number_of e), good-read)
