-- A file is accepted exactly when it is a header, records and a trailer that meet every rule.
-- Assumes nothing.
use Prim.Native.Nat.{ℕ, zero, suc, ◌+◌, ◌*◌, ◌≤◌, ◌<◌}
use mathlib.Core.Bool.{Bool}
use mathlib.Core.List.{List, ◌++◌, append_assoc, append-nil}
use mathlib.Core.Path.{◌≡◌, refl, sym, ◌∙◌, ap}
use mathlib.Core.Logic.{◌↔◌}
use native.Mathlib.Nat.{add-zero, le_refl, le_antisymm}
use native.Mathlib.Numerals.{add-one}
use native.Mathlib.Omega.{arith}
use borrow.Author.Tests.{lt-leb}
use lib.ListN.{length, get_or, take, drop, length-append, length-drop, take-append-drop}
use lib.Seq.{take_all, take_at, drop_at, take-add}
use Rattle.laws.specs.Joined.{joined}
use Rattle.laws.specs.Part.{part}
use Rattle.laws.specs.Sum.{sum}
use Rattle.laws.proofs.Leasts.{least-none}
use Rattle.laws.proofs.Sums.{sum_same, sum-up}
use Rattle.laws.proofs.Parts.{part_length, part_at, part-part, drop-part}
use Rattle.laws.proofs.Joins.{joined-split}
use Rattle.numbers.specs.Numbers.{value_of}
use Rattle.answers.specs.Answers.{accepted}
use Rattle.evidence_units.specs.Frames.{SignedIf}
use Rattle.evidence.specs.Blocks.{block, front, blocks_for, blocks_in, last_block, data_blocks, block_at, length_at, kind_at, next_of, start_of, at_end, records_in, evidence_in}
use Rattle.evidence.specs.Judged.{filler_at, byte_of}
use Rattle.evidence.specs.Reading.{key_of, read_of}
use Rattle.evidence.specs.Meets.{evidence_of, blocks_of, blocks_to, Fits, Composed, Meets}
use Rattle.evidence.specs.Stages.{Good, Stages}
use Rattle.evidence.proofs.Walks.{block_inside, blocks-enough, blocks-some, start_first, start-more, start-before, way_end, records-end}
use Rattle.evidence.proofs.Stages.{read-good, stages-exact}

-- what a record that begins with block b and has k blocks says, in the file
module _ (s : List ℕ) (b k : ℕ) (some : 0 < k) (fits : b * block + k * block ≤ length s) where
  entry-part : (a c : ℕ) → a + c ≤ block → part a c (part (b * block) (k * block) s) ≡ part (b * block + a) c s
  entry-part a c h = part-part a c (b * block) (k * block) s (omega arith) fits

  entry-front : part 0 front (part (b * block) (k * block) s) ≡ part (b * block) front s
  entry-front = entry-part 0 front (omega arith) ∙ ap (λ (x : ℕ). part x front s) (add-zero (b * block))

  entry_length : evidence_of (part (b * block) (k * block) s) ≡ length_at s b
  unfolding length_at
  entry_length = ap value_of (entry-part 112 7 (omega arith))

  entry-kind : get_or (part (b * block) (k * block) s) 106 0 ≡ kind_at s b
  unfolding kind_at
  entry-kind = part_at (b * block) (k * block) s 106 (omega arith)

  entry-filler : k ≡ blocks_for (length_at s b) → drop (front + length_at s b) (part (b * block) (k * block) s) ≡ filler_at s b
  unfolding filler_at
  entry-filler e =
      rw (← e)
      (drop-part (front + length_at s b) (b * block) (k * block) s (omega (arith, blocks-enough (length_at s b), e)) fits)

  entry-evidence : k ≡ blocks_for (length_at s b) → part front (length_at s b) (part (b * block) (k * block) s) ≡ part (b * block + front) (length_at s b) s
  entry-evidence e = part-part front (length_at s b) (b * block) (k * block) s (omega (arith, blocks-enough (length_at s b), e)) fits

  -- it fits exactly when it is good where it begins
  entry-fits :
      (exempt : Bool) (rec header : List ℕ) (n : ℕ) → rec ≡ part (b * block) (k * block) s → header ≡ block_at s 0 →
      k ≡ blocks_for (length_at s b) → next_of s b ≤ last_block s → Fits exempt header rec n ↔ Good exempt s b n
  entry-fits exempt rec header n e h q l = (
    λ f. record {
      rows = rw (e, h, entry-front) at f.rows;
      size = rw (e, entry_length, entry-kind) at f.size;
      inside = l;
      filler = rw (e, entry_length, entry-filler q) at f.filler;
    },
    λ g. rw (e, h) (record {
      whole = rw (entry_length, ← q) (part_length (b * block) (k * block) s fits);
      rows = rw entry-front g.rows;
      size = rw (entry_length, entry-kind) g.size;
      filler = rw (entry_length, entry-filler q) g.filler;
    }),
  )

-- a block is one block long
block-long : (s : List ℕ) (b : ℕ) → b < blocks_in s → length (block_at s b) ≡ block
unfolding block_at
block-long s b h = part_length (b * block) block s (omega (arith, block_inside s b h))

-- record i + 1 where the walk meets it
entry_of : List ℕ → ℕ → List ℕ
entry_of s i = part (start_of s i * block) (blocks_for (length_at s (start_of s i)) * block) s

-- up to it stand the header and the records before it
walked : (s : List ℕ) (i : ℕ) → block_at s 0 ++ joined (entry_of s) i ≡ take (start_of s i * block) s
unfolding joined block_at part entry_of start_of next_of
walked s zero = append-nil (take block s)
walked s (suc i) =
    let b = start_of s i in
    let k = blocks_for (length_at s b) in
    let e : b * block + k * block ≡ (b + k) * block = omega arith in
    sym (append_assoc (block_at s 0) (joined (entry_of s) i) (entry_of s i)) ∙
    (ap (λ (x : List ℕ). x ++ entry_of s i) (walked s i) ∙
    (sym (take-add (b * block) (k * block) s) ∙ ap (λ (x : ℕ). take x s) e))

-- and as many blocks as they have
walked-blocks : (s : List ℕ) (i : ℕ) → start_of s i ≡ 1 + sum (λ j. blocks_for (length_at s (start_of s j))) i
unfolding start_of next_of sum
walked-blocks s zero = refl
walked-blocks s (suc i) = omega (arith, walked-blocks s i)

module _ (exempt : Bool) (s : List ℕ) (m : Stages exempt s) where
  -- the walk stays before the last block, and ends there
  start-most : (i : ℕ) → i ≤ records_in s → start_of s i ≤ last_block s
  start-most zero h = rw (start_first s) (omega (arith, m.sizes.fewest))
  start-most (suc i) h = rw (← add-one i, start-more s i) (m.each i h).inside

  pub start-last : start_of s (records_in s) ≡ last_block s
  start-last = le_antisymm (start-most (records_in s) (le_refl (records_in s))) (records-end s m.few)

  entry-inside : (i : ℕ) → i < records_in s → start_of s i * block + blocks_for (length_at s (start_of s i)) * block ≤ length s
  unfolding next_of
  entry-inside i h = omega (arith, m.sizes.whole, m.sizes.fewest, (m.each i h).inside)

  entry-says : (i : ℕ) → i < records_in s → evidence_of (entry_of s i) ≡ length_at s (start_of s i)
  unfolding entry_of
  entry-says i h = entry_length s (start_of s i) (blocks_for (length_at s (start_of s i))) (blocks-some (length_at s (start_of s i))) (entry-inside i h)

  entry_key : (i : ℕ) → i < records_in s → part 45 61 (entry_of s i) ≡ key_of s i
  unfolding entry_of key_of byte_of
  entry_key i h = entry-part s (start_of s i) (blocks_for (length_at s (start_of s i))) (blocks-some (length_at s (start_of s i))) (entry-inside i h) 45 61 (omega arith)

  entry-signed : (i : ℕ) → i < records_in s → SignedIf (get_or (entry_of s i) 106 0) (part front (evidence_of (entry_of s i)) (entry_of s i))
  unfolding entry_of evidence_in
  entry-signed i h =
      let b = start_of s i in
      let k = blocks_for (length_at s b) in
      let some = blocks-some (length_at s b) in
      rw (entry-kind s b k some (entry-inside i h), entry_length s b k some (entry-inside i h), entry-evidence s b k some (entry-inside i h) refl) (m.signed i h)

  -- the records are the data blocks, and the trailer is what is left
  data-blocks : blocks_to (entry_of s) (records_in s) ≡ data_blocks s
  data-blocks =
      omega (
        arith,
        sum_same (λ i. blocks_of (entry_of s i)) (λ i. blocks_for (length_at s (start_of s i))) (records_in s) (λ i h. ap blocks_for (entry-says i h)),
        walked-blocks s (records_in s),
        start-last,
        m.sizes.fewest,
      )

  trailer-rest : block_at s (last_block s) ≡ drop (start_of s (records_in s) * block) s
  unfolding block_at part
  trailer-rest = rw start-last (take_all block (drop (last_block s * block) s) (rw length-drop (omega (arith, m.sizes.whole, m.sizes.fewest))))

  -- so an accepted file is composed of what the walk met
  pub stages-meet : Meets exempt s
  unfolding entry_of
  stages-meet = record {
    header = block_at s 0;
    trailer = block_at s (last_block s);
    count = records_in s;
    entry = entry_of s;
    composed = record {
      all = whole;
      header-long = block-long s 0 (omega (arith, m.sizes.fewest));
      trailer-long = block-long s (last_block s) (omega (arith, m.sizes.fewest));
      few = m.few;
      most = omega (arith, data-blocks, m.sizes.most);
      header-rows = m.header;
      entries = each;
      trailer-rows = m.trailer;
      header-count = m.counts.header;
      trailer-count = m.counts.trailer;
      trailer-blocks = rw data-blocks m.counts.blocks;
      keys = λ i j a b e. m.keys i j a b (sym (entry_key i a) ∙ (e ∙ entry_key j b));
      signed = entry-signed;
    };
  }
    where
      whole : s ≡ block_at s 0 ++ (joined (entry_of s) (records_in s) ++ block_at s (last_block s))
      whole =
          sym (take-append-drop (start_of s (records_in s) * block) s) ∙
          rw (← walked s (records_in s), ← trailer-rest) (append_assoc (block_at s 0) (joined (entry_of s) (records_in s)) (block_at s (last_block s)))

      each : (i : ℕ) → i < records_in s → Fits exempt (block_at s 0) (entry_of s i) (i + 1)
      each i h =
          (entry-fits s (start_of s i) (blocks_for (length_at s (start_of s i))) (blocks-some (length_at s (start_of s i))) (entry-inside i h)
          exempt (entry_of s i) (block_at s 0) (i + 1) refl refl refl (m.each i h).inside).1 (m.each i h)

module _ (exempt : Bool) (s header trailer : List ℕ) (n : ℕ) (entry : ℕ → List ℕ) (m : Composed exempt s header trailer n entry) where
  joined-long : (i : ℕ) → i ≤ n → length (joined entry i) ≡ blocks_to entry i * block
  unfolding joined sum
  joined-long zero h = refl
  joined-long (suc i) h = length-append (joined entry i) (entry i) ∙ omega (arith, joined-long i (omega arith), (m.entries i h).whole)

  -- the file is as long as its parts
  composed-bytes : length s ≡ (blocks_to entry n + 2) * block
  composed-bytes =
      ap length m.all ∙
      (length-append header (joined entry n ++ trailer) ∙
      omega (arith, length-append (joined entry n) trailer, joined-long n (le_refl n), m.header-long, m.trailer-long))

  composed-long : blocks_in s ≡ blocks_to entry n + 2
  unfolding blocks_in
  composed-long = omega (arith, composed-bytes)

  composed-whole : length s ≡ blocks_in s * block
  composed-whole = omega (arith, composed-bytes, composed-long)

  behind : (i : ℕ) → i ≤ n → length (header ++ joined entry i) ≡ (1 + blocks_to entry i) * block
  behind i h = length-append header (joined entry i) ∙ omega (arith, joined-long i h, m.header-long)

  -- its first and last block are the header and the trailer
  first-is : header ≡ block_at s 0
  unfolding block_at part
  first-is = sym (ap (take block) m.all ∙ take_at header (joined entry n ++ trailer) block m.header-long)

  last-is : trailer ≡ block_at s (last_block s)
  unfolding block_at part
  last-is =
      let all : s ≡ (header ++ joined entry n) ++ trailer = m.all ∙ sym (append_assoc header (joined entry n) trailer) in
      let at : length (header ++ joined entry n) ≡ last_block s * block = omega (arith, behind n (le_refl n), composed-long) in
      let rest : drop (last_block s * block) s ≡ trailer = ap (drop (last_block s * block)) all ∙ drop_at (header ++ joined entry n) trailer (last_block s * block) at in
      sym (ap (take block) rest ∙ take_all block trailer (omega (arith, m.trailer-long)))

  -- record i stands behind the header and the records before it
  pub stands : (i : ℕ) → i < n → part ((1 + blocks_to entry i) * block) (blocks_of (entry i) * block) s ≡ entry i
  unfolding part
  stands i h =
      let p = joined-split entry n i h in
      let b = (1 + blocks_to entry i) * block in
      let all : s ≡ (header ++ joined entry i) ++ (entry i ++ (p.0 ++ trailer)) = m.all ∙ rw p.1 (simp append_assoc) in
      let rest : drop b s ≡ entry i ++ (p.0 ++ trailer) = ap (drop b) all ∙ drop_at (header ++ joined entry i) (entry i ++ (p.0 ++ trailer)) b (behind i (omega arith)) in
      ap (take (blocks_of (entry i) * block)) rest ∙ take_at (entry i) (p.0 ++ trailer) (blocks_of (entry i) * block) (m.entries i h).whole

  pub room : (i : ℕ) → i < n → (1 + blocks_to entry i) * block + blocks_of (entry i) * block ≤ length s
  room i h = omega (arith, sum-up (λ j. blocks_of (entry j)) n i h, composed-bytes)

  pub stands-says : (i : ℕ) → i < n → length_at s (1 + blocks_to entry i) ≡ evidence_of (entry i)
  stands-says i h =
      sym (entry_length s (1 + blocks_to entry i) (blocks_of (entry i)) (blocks-some (evidence_of (entry i))) (room i h)) ∙ ap evidence_of (stands i h)

  -- the walk meets each record where it stands
  pub starts : (i : ℕ) → i ≤ n → start_of s i ≡ 1 + blocks_to entry i
  unfolding start_of next_of sum
  starts zero h = refl
  starts (suc i) h = rw (starts i (omega arith), stands-says i h) (omega arith)

  -- and ends behind the last
  pub counted : records_in s ≡ n
  unfolding at_end
  counted =
      let end : start_of s n ≡ last_block s = omega (arith, starts n (le_refl n), composed-long) in
      way_end s n (omega (arith, m.few))
      (least-none (at_end s) n (λ k h. lt-leb (last_block s) (start_of s k) (omega (arith, start-before s k n h))))
      (omega arith)

  -- each record is good where it stands
  met : (i : ℕ) → i < n → Good exempt s (1 + blocks_to entry i) (i + 1)
  unfolding next_of
  met i h =
      let b = 1 + blocks_to entry i in
      let inside : b + blocks_for (length_at s b) ≤ last_block s = rw (stands-says i h) (omega (arith, sum-up (λ j. blocks_of (entry j)) n i h, composed-long)) in
      (entry-fits s b (blocks_of (entry i)) (blocks-some (evidence_of (entry i))) (room i h)
      exempt (entry i) header (i + 1) (sym (stands i h)) first-is (ap blocks_for (sym (stands-says i h))) inside).0 (m.entries i h)

  key-is : (i : ℕ) → i < n → key_of s i ≡ part 45 61 (entry i)
  unfolding key_of byte_of
  key-is i h =
      rw (starts i (omega arith))
      (sym (entry-part s (1 + blocks_to entry i) (blocks_of (entry i)) (blocks-some (evidence_of (entry i))) (room i h) 45 61 (omega arith)) ∙ ap (part 45 61) (stands i h))

  signed_is : (i : ℕ) → i < n → SignedIf (kind_at s (start_of s i)) (evidence_in s i)
  unfolding evidence_in
  signed_is i h =
      let b = 1 + blocks_to entry i in
      let k = blocks_of (entry i) in
      let some = blocks-some (evidence_of (entry i)) in
      let kind : get_or (entry i) 106 0 ≡ kind_at s b = ap (λ (r : List ℕ). get_or r 106 0) (sym (stands i h)) ∙ entry-kind s b k some (room i h) in
      let evidence : part front (evidence_of (entry i)) (entry i) ≡ part (b * block + front) (length_at s b) s =
      rw (← stands-says i h) (ap (part front (length_at s b)) (sym (stands i h)) ∙ entry-evidence s b k some (room i h) (ap blocks_for (sym (stands-says i h)))) in
      rw (starts i (omega arith), ← kind, ← evidence) (m.signed i h)

  -- so a file that is composed so is good at each stage
  composed-stages : Stages exempt s
  composed-stages = record {
    sizes = record { whole = composed-whole; fewest = omega (arith, composed-long); most = omega (arith, composed-long, m.most) };
    header = rw first-is at m.header-rows;
    few = rw counted m.few;
    each = rw counted (λ i h. rw (starts i (omega arith)) (met i h));
    trailer = rw (counted, ← last-is, ← first-is) m.trailer-rows;
    counts = record {
      header = rw (counted, ← first-is) m.header-count;
      trailer = rw (counted, ← last-is) m.trailer-count;
      blocks = rw (data-are, ← last-is) m.trailer-blocks;
    };
    keys = rw counted (λ i j a b e. m.keys i j a b (sym (key-is i a) ∙ (e ∙ key-is j b)));
    signed = rw counted signed_is;
  }
    where
      data-are : data_blocks s ≡ blocks_to entry n
      data-are = omega (arith, composed-long)

-- *Exact*: accepted exactly when the file is composed so
pub read-exact : (exempt : Bool) (s : List ℕ) → (read_of exempt s ≡ accepted) ↔ Meets exempt s
read-exact exempt s = (
  λ e. stages-meet exempt s ((stages-exact exempt s).0 e),
  λ m. (stages-exact exempt s).1 (composed-stages exempt s m.header m.trailer m.count m.entry m.composed),
)

-- number 0 is enough
pub accepted-meets : (exempt : Bool) (s : List ℕ) → (read_of exempt s).number ≡ 0 → Meets exempt s
accepted-meets exempt s e = stages-meet exempt s (read-good exempt s e)
