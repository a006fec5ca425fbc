-- The place of a refusal is the first, in the order of reading, at which something is wrong.
-- Assumes nothing.
use Prim.Native.Nat.{ℕ, ◌+◌, ◌*◌, ◌≤◌, ◌<◌}
use mathlib.Core.Bool.{Bool, true, false, cond, ◌&&◌}
use mathlib.Core.List.{List}
use mathlib.Core.Path.{◌≡◌, refl, ◌∙◌}
use mathlib.Core.Logic.{⊎_elim}
use native.Mathlib.Nat.{eq-or-lt_of_le}
use native.Mathlib.Omega.{arith}
use borrow.Author.Tests.{eqb-true, eqb-false, leb-true, leb-false, eq-eqb, ne_eqb}
use lib.Dec.{eqb, leb}
use lib.ListN.{length, get_or}
use Rattle.laws.specs.Least.{least}
use Rattle.laws.specs.Part.{part}
use Rattle.laws.proofs.Bools.{and_left, and_right, either}
use Rattle.laws.proofs.Leasts.{least-is, least-before}
use Rattle.text.specs.Characters.{spaces}
use Rattle.kinds.specs.Kinds.{limit}
use Rattle.tables.specs.declared.row.Row.{Row}
use Rattle.tables.specs.Rows.{blank}
use Rattle.answers.specs.declared.told.Answer.{Answer}
use Rattle.answers.specs.Answers.{accepted, refused, refused_at, refuses, first_told, ◌then◌}
use Rattle.answers.proofs.Refusals.{tested, number_of, refuses-zero, refuses-other, then-first, then-second, told, Good, First}
use Rattle.evidence_rows.specs.Tables.{header_rows, data_rows, trailer_rows}
use Rattle.layout.specs.Rules.{holds}
use Rattle.layout.specs.Judging.{broken_at, row_tells, judge_by}
use Rattle.layout.proofs.Judged.{row-good, row-bad, row-holds, judge-exact}
use Rattle.keys.specs.Keys.{repeats_in, Distinct}
use Rattle.keys.proofs.Distinct.{distinct-if}
use Rattle.evidence_units.specs.Frames.{SignedIf, frame_told, frames_told}
use Rattle.evidence_units.proofs.Framed.{frame-good, good-frame, bad-frame}
use Rattle.evidence.specs.Blocks.{block, front, most_blocks, blocks_in, last_block, block_at, length_at, kind_at, next_of, start_of, records_in, evidence_in}
use Rattle.evidence.specs.Judged.{no_own, length_good, header_told, items_told, length_told, filler_at, filler_told, block_told, record_told, records_told, unit_byte, trailer_told}
use Rattle.evidence.specs.Reading.{is_whole, size_told, count_told, counts_told, key_of, keys_told, signed_told, read_of}
use Rattle.evidence.specs.Meets.{RowsHold}
use Rattle.evidence.specs.Stages.{Sizes, Counts}
use Rattle.evidence.specs.First.{Broken, Came, Met, Held, Closed, Says}
use Rattle.evidence.proofs.Walks.{records-most}
use Rattle.evidence.proofs.Stages.{size-good, header-exact, trailer-exact, counts-good, count-good, block-good, records-good, keys-good, good-keys, keys-bad, unit-signed}
use Rattle.evidence.proofs.Exact.{stages-meet}

-- a refusal
abbrev pub Bad : Answer → Type 0
Bad a = a.number ≡ 0 → ⊥

-- what is told is the first answer where that refuses, else the second
module _ (P : Answer → Type 0) where
  pub then-says : (a b : Answer) → (Bad a → P a) → (a.number ≡ 0 → P b) → P (a then b)
  then-says a b f g =
      ⊎_elim
      (λ t. rw (then-first a b (refuses-other a t)) (f (refuses-other a t)))
      (λ n. rw (then-second a b (refuses-zero a n)) (g (refuses-zero a n)))
      (either (refuses a))

  -- a test that fails
  pub test-says : (t : Bool) (a : Answer) → (t ≡ false → P a) → Bad (cond t accepted a) → P (cond t accepted a)
  test-says true a f ne = absurd (ne refl)
  test-says false a f ne = f refl

  -- the first row that does not hold
  pub rows-say :
      (rows : List Row) (rec header : List ℕ) (n : ℕ) →
      ((j : ℕ) → Broken rows rec header n j → P (broken_at n (get_or rows j blank))) →
      Bad (judge_by no_own rows rec header n) → P (judge_by no_own rows rec header n)
  unfolding judge_by
  rows-say rows rec header n f ne = ⊎_elim (λ g. absurd (ne (number_of g.told))) found (told tells (length rows))
    where
      tells : ℕ → Answer
      tells = row_tells no_own rows rec header n

      fails : (j : ℕ) → Bad (tells j) → holds no_own rec header n (get_or rows j blank) ≡ false
      fails j b = ⊎_elim (λ t. absurd (b (row-good no_own rows rec header n j t))) (λ x. x) (either (holds no_own rec header n (get_or rows j blank)))

      found : ((j : ℕ) × First tells (length rows) j) → P (first_told tells (length rows))
      found p =
          let j = p.0 in
          let r = p.1 in
          rw (r.told, row-bad no_own rows rec header n j (fails j r.bad))
          (f j (record { below = r.below; broken = fails j r.bad; before = λ i h. row-holds no_own rows rec header n i (r.before i h) }))

module _ (exempt : Bool) (s : List ℕ) where
  size-says : Bad (size_told s) → Says exempt s (size_told s)
  unfolding size_told
  size-says ne = ⊎_elim (λ t. whole t (rw t at ne)) (λ f. rw f (Says.short f)) (either (is_whole s))
    where
      whole : is_whole s ≡ true → Bad (cond (leb (blocks_in s) (most_blocks + 2)) accepted (refused 3)) → Says exempt s (cond (is_whole s) (cond (leb (blocks_in s) (most_blocks + 2)) accepted (refused 3)) (refused 2))
      whole t b = rw t (test-says (Says exempt s) (leb (blocks_in s) (most_blocks + 2)) (refused 3) (λ f. Says.long t (leb-false _ _ f)) b)

  header-says : Sizes s → Bad (header_told s) → Says exempt s (header_told s)
  unfolding header_told
  header-says z = rows-say (Says exempt s) header_rows (block_at s 0) (block_at s 0) 0 (λ j b. Says.header j z b)

  -- record i + 1
  length-says : (i : ℕ) → Held exempt s i → Bad (length_told exempt s (start_of s i) (i + 1)) → Says exempt s (length_told exempt s (start_of s i) (i + 1))
  unfolding length_told
  length-says i h = test-says (Says exempt s) (good && leb (next_of s (start_of s i)) (last_block s)) _ (λ f. ⊎_elim (λ t. Says.past i h (leb-false _ _ (rw t at f))) (λ g. Says.size i h g) (either good))
    where
      good : Bool
      good = length_good exempt (kind_at s (start_of s i)) (length_at s (start_of s i))

  filler-says :
      (i : ℕ) → Held exempt s i → (length_told exempt s (start_of s i) (i + 1)).number ≡ 0 →
      Bad (filler_told s (start_of s i) (i + 1)) → Says exempt s (filler_told s (start_of s i) (i + 1))
  unfolding length_told filler_told
  filler-says i h e =
      let good = length_good exempt (kind_at s (start_of s i)) (length_at s (start_of s i)) in
      let fits = leb (next_of s (start_of s i)) (last_block s) in
      let t = tested (good && fits) (refused_at 4 (i + 1) 12 0x30313033) (λ z. omega arith) e in
      test-says (Says exempt s) (spaces (filler_at s (start_of s i))) _ (λ f. Says.filler i h (and_left good fits t) (leb-true _ _ (and_right good fits t)) f)

  block-says : (i : ℕ) → Met exempt s i → Bad (block_told exempt s (start_of s i) (i + 1)) → Says exempt s (block_told exempt s (start_of s i) (i + 1))
  unfolding block_told items_told
  block-says i h ne =
      then-says (Says exempt s) (items_told exempt s b (i + 1)) _
      (rows-say (Says exempt s) (data_rows exempt) (part (b * block) front s) (block_at s 0) (i + 1) (λ j r. Says.row i j h r))
      (λ z. let g : Held exempt s i = record { met = h; rows = (judge-exact no_own (data_rows exempt) (part (b * block) front s) (block_at s 0) (i + 1)).0 z } in
      then-says (Says exempt s) (length_told exempt s b (i + 1)) (filler_told s b (i + 1)) (length-says i g)
      (λ y. filler-says i g y (λ x. ne (number_of (then-second _ _ z ∙ then-second _ _ y) ∙ x))))
    where
      b : ℕ
      b = start_of s i

  -- the records
  records-say : Sizes s → RowsHold header_rows (block_at s 0) (block_at s 0) 0 → Bad (records_told exempt s) → Says exempt s (records_told exempt s)
  unfolding records_told record_told
  records-say z r ne = ⊎_elim (λ g. absurd (ne (number_of g.told))) found (told (record_told exempt s) (records_in s))
    where
      before : (i : ℕ) → First (record_told exempt s) (records_in s) i → Came exempt s i
      before i f = record {
        sizes = z;
        header = r;
        each = λ k h. block-good exempt s (start_of s k) (k + 1) (rw (ne_eqb k limit (λ q. absurd (omega (arith, f.below, records-most s)))) at (f.before k h));
      }

      over : (i : ℕ) → First (record_told exempt s) (records_in s) i → i ≡ limit → Says exempt s (record_told exempt s i)
      over i f e = rw (eq-eqb i limit e) (Says.many (rw e at (before i f)) (rw e at f.below))

      under : (i : ℕ) → First (record_told exempt s) (records_in s) i → (i ≡ limit → ⊥) → Says exempt s (record_told exempt s i)
      under i f e =
          rw (ne_eqb i limit e)
          (block-says i (record { came = before i f; one = f.below; few = below }) (rw (ne_eqb i limit e) at f.bad))
        where
          below : i < limit
          below = ⊎_elim (λ q. absurd (e q)) (λ l. l) (eq-or-lt_of_le (omega (arith, f.below, records-most s)))

      found : ((i : ℕ) × First (record_told exempt s) (records_in s) i) → Says exempt s (first_told (record_told exempt s) (records_in s))
      found p = rw p.1.told (⊎_elim (λ t. over p.0 p.1 (eqb-true p.0 limit t)) (λ n. under p.0 p.1 (eqb-false p.0 limit n)) (either (eqb p.0 limit)))

  trailer-says : Came exempt s (records_in s) → records_in s ≤ limit → Bad (trailer_told s) → Says exempt s (trailer_told s)
  unfolding trailer_told
  trailer-says c l = rows-say (Says exempt s) trailer_rows (block_at s (last_block s)) (block_at s 0) (records_in s + 1) (λ j b. Says.trailer j c l b)

  count-says : (t : Bool) (n item : ℕ) → (t ≡ false → Says exempt s (refused_at 6 n item 0x30303030)) → Bad (count_told t n item) → Says exempt s (count_told t n item)
  unfolding count_told
  count-says t n item = test-says (Says exempt s) t (refused_at 6 n item 0x30303030)

  counts-say : Closed exempt s → Bad (counts_told s) → Says exempt s (counts_told s)
  unfolding counts_told
  counts-say c ne =
      then-says (Says exempt s) _ _ (count-says _ 0 6 (Says.header-count c))
      (λ z. let a = count-good s _ 0 6 z in
      then-says (Says exempt s) _ _ (count-says _ (records_in s + 1) 5 (Says.trailer-count c a))
      (λ y. count-says _ (records_in s + 1) 6 (Says.trailer-blocks c a (count-good s _ (records_in s + 1) 5 y))
      (λ x. ne (number_of (then-second _ _ z ∙ then-second _ _ y) ∙ x))))

  keys-say : Closed exempt s → Counts s → Bad (keys_told s) → Says exempt s (keys_told s)
  keys-say c k ne = ⊎_elim none found (eq-or-lt_of_le (least-is (repeats_in (key_of s)) n).within)
    where
      n : ℕ
      n = records_in s

      none : least (repeats_in (key_of s)) n ≡ n → Says exempt s (keys_told s)
      none e = absurd (ne (number_of (good-keys s (distinct-if (key_of s) n (least-before (repeats_in (key_of s)) n e)))))

      found : least (repeats_in (key_of s)) n < n → Says exempt s (keys_told s)
      found h =
          rw (keys-bad s h)
          (Says.key (least (repeats_in (key_of s)) n) c k h ((least-is (repeats_in (key_of s)) n).holds h) (least-is (repeats_in (key_of s)) n).before)

  signed-says : Closed exempt s → Counts s → Distinct (key_of s) (records_in s) → Says exempt s (signed_told s)
  unfolding signed_told frames_told
  signed-says c k d = ⊎_elim good found (told tells (records_in s))
    where
      tells : ℕ → Answer
      tells i = frame_told s (unit_byte s i) (i + 1)

      signed : (i : ℕ) → (tells i).number ≡ 0 → SignedIf (kind_at s (start_of s i)) (evidence_in s i)
      signed i z = (unit-signed s i).0 (frame-good s (unit_byte s i) (i + 1) z)

      good : Good tells (records_in s) → Says exempt s (first_told tells (records_in s))
      good g =
          rw g.told
          (Says.good (stages-meet exempt s (record {
            sizes = c.came.sizes;
            header = c.came.header;
            few = c.few;
            each = c.came.each;
            trailer = c.trailer;
            counts = k;
            keys = d;
            signed = λ i h. signed i (g.all i h);
          })))

      found : ((i : ℕ) × First tells (records_in s) i) → Says exempt s (first_told tells (records_in s))
      found p =
          let i = p.0 in
          let r = p.1 in
          rw (r.told, bad-frame s (unit_byte s i) (i + 1) r.bad)
          (Says.frame i c k d r.below (λ m h. signed m (r.before m h)) (λ x. r.bad (number_of (good-frame s (unit_byte s i) (i + 1) ((unit-signed s i).1 x)))))

  -- *First refusal*: the answer names the first place at which something is wrong
  pub first-refusal : Says exempt s (read_of exempt s)
  unfolding read_of
  first-refusal =
      then-says (Says exempt s) (size_told s) _ size-says (λ a.
      then-says (Says exempt s) (header_told s) _ (header-says (size-good s a)) (λ b.
      then-says (Says exempt s) (records_told exempt s) _ (records-say (size-good s a) ((header-exact s).0 b)) (λ c.
      came (record { sizes = size-good s a; header = (header-exact s).0 b; each = (records-good exempt s c).1 }) (records-good exempt s c).0)))
    where
      came : Came exempt s (records_in s) → records_in s ≤ limit → Says exempt s (trailer_told s then (counts_told s then (keys_told s then signed_told s)))
      came c l =
          then-says (Says exempt s) (trailer_told s) _ (trailer-says c l) (λ d.
          closed (record { came = c; few = l; trailer = (trailer-exact s).0 d }))
        where
          closed : Closed exempt s → Says exempt s (counts_told s then (keys_told s then signed_told s))
          closed g =
              then-says (Says exempt s) (counts_told s) _ (counts-say g) (λ e.
              then-says (Says exempt s) (keys_told s) _ (keys-say g (counts-good s e)) (λ f. signed-says g (counts-good s e) (keys-good s f)))
