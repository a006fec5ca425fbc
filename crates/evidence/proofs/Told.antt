-- What is told of the records: by the number of a record, and where the walk over them ends.
-- Assumes nothing.
use Prim.Native.Nat.{ℕ, ◌+◌, ◌≤◌, ◌<◌}
use mathlib.Core.Bool.{Bool, true, ◌&&◌}
use mathlib.Core.List.{List}
use mathlib.Core.Path.{◌≡◌, sym, ◌∙◌}
use native.Mathlib.Omega.{arith}
use borrow.Author.Tests.{leb-true, eq-eqb, ne_eqb}
use lib.Dec.{leb}
use Rattle.laws.proofs.Bools.{and_left, and_right}
use Rattle.laws.proofs.Leasts.{least_start, least-stop}
use Rattle.answers.specs.declared.refusing.Refusal.{Refusal}
use Rattle.answers.specs.declared.refusing.Refusal.TheVariants.{TooMany}
use Rattle.answers.specs.Answers.{accepted, refused, refused_at, refuses_at}
use Rattle.answers.specs.Refusing.{told_by}
use Rattle.answers.proofs.Refusals.{So-far, tested, refuses-is, then-zero, told-end}
use Rattle.answers.proofs.Tellings.{bad, good, loop-start, loop-stop, loop-more}
use Rattle.kinds.specs.Kinds.{limit}
use Rattle.evidence.specs.Blocks.{blocks_in, last_block, length_at, kind_at, next_of, start_of, records_in}
use Rattle.evidence.specs.Judged.{length_good, items_told, length_told, filler_told, block_told, record_told, records_told, good_to}
use Rattle.evidence.proofs.Walks.{start_first, start-more, UnderWay, way-more, way-met, way_end}

module _ (exempt : Bool) (s : List ℕ) (b n : ℕ) where
  -- a good length is one of its kind, and ends before the last block
  pub length-passed : (length_told exempt s b n).number ≡ 0 → (length_good exempt (kind_at s b) (length_at s b) ≡ true) × (next_of s b ≤ last_block s)
  unfolding length_told
  length-passed e =
      let both = tested (length_good exempt (kind_at s b) (length_at s b) && leb (next_of s b) (last_block s)) (refused_at 4 n 12 0x30313033) (λ z. omega arith) e in
      (and_left (length_good exempt (kind_at s b) (length_at s b)) (leb (next_of s b) (last_block s)) both, leb-true (next_of s b) (last_block s) (and_right (length_good exempt (kind_at s b) (length_at s b)) (leb (next_of s b) (last_block s)) both))

  -- a good record: its items, its length, its filler
  pub block-passed : (block_told exempt s b n).number ≡ 0 → ((items_told exempt s b n).number ≡ 0) × (((length_told exempt s b n).number ≡ 0) × ((filler_told s b n).number ≡ 0))
  unfolding block_told
  block-passed e = let t = then-zero (items_told exempt s b n) _ e in (t.0, then-zero (length_told exempt s b n) (filler_told s b n) t.1)

  pub block-fits : (block_told exempt s b n).number ≡ 0 → next_of s b ≤ last_block s
  block-fits e = (length-passed (block-passed e).1.0).1

module _ (exempt : Bool) (s : List ℕ) (i : ℕ) where
  -- the limit's next record is 3, every other one by its items
  pub record-limit : i ≡ limit → record_told exempt s i ≡ refused 3
  unfolding record_told
  record-limit e = rw (eq-eqb i limit e)

  pub record-block : (i ≡ limit → ⊥) → record_told exempt s i ≡ block_told exempt s (start_of s i) (i + 1)
  unfolding record_told
  record-block ne = rw (ne_eqb i limit ne)

-- where a loop over the records stands that none stopped so far: at record i + 1, which begins with block b
pub record Walk (exempt : Bool) (s : List ℕ) (i b : ℕ) : Type 0 where
  pub within : b ≤ last_block s
  pub here : b ≡ start_of s i
  pub under-way : UnderWay s i
  pub so-far : So-far (record_told exempt s) i

pub walk-first : (exempt : Bool) (s : List ℕ) → 2 ≤ blocks_in s → Walk exempt s 0 1
walk-first exempt s h = record { within = omega arith; here = sym (start_first s); under-way = least_start _; so-far = loop-start _ }

module _ (exempt : Bool) (s : List ℕ) (i b : ℕ) (w : Walk exempt s i b) where
  begun : b < last_block s → start_of s i < last_block s
  begun h = rw w.here at h

  -- the record is refused: it is told, and those before it are good
  walk-refused :
      i ≤ limit → b < last_block s → (r : Refusal) → told_by r ≡ record_told exempt s i →
      (told_by r ≡ records_told exempt s) × (good_to exempt s ≡ i)
  unfolding records_told good_to refuses_at
  walk-refused l h r e =
      let met = way-met s i (omega (arith, l)) w.under-way (begun h) in
      (loop-stop (record_told exempt s) r i (records_in s) met w.so-far e, least-stop (refuses_at (record_told exempt s)) i (records_in s) met w.so-far (refuses-is (record_told exempt s i) (bad r _ e)))

  -- by what is told of its block
  told-block : i < limit → block_told exempt s b (i + 1) ≡ record_told exempt s i
  told-block l = rw w.here (sym (record-block exempt s i (λ q. absurd (omega (arith, l, q)))))

  pub walk-stops :
      i < limit → b < last_block s → (r : Refusal) → told_by r ≡ block_told exempt s b (i + 1) →
      (told_by r ≡ records_told exempt s) × (good_to exempt s ≡ i)
  walk-stops l h r e = walk-refused (omega (arith, l)) h r (e ∙ told-block l)

  -- or there is one more than the limit
  pub walk-past : i ≡ limit → b < last_block s → (refused 3 ≡ records_told exempt s) × (good_to exempt s ≡ i)
  walk-past e h = walk-refused (omega (arith, e)) h TooMany (sym (record-limit exempt s i e))

  -- it is good
  pub walk-more : i < limit → b < last_block s → accepted ≡ block_told exempt s b (i + 1) → Walk exempt s (i + 1) (next_of s b)
  walk-more l h e = record {
    within = block-fits exempt s b (i + 1) (good _ e);
    here = rw (start-more s i, w.here);
    under-way = way-more s i w.under-way (begun h);
    so-far = loop-more (record_told exempt s) i w.so-far (e ∙ told-block l);
  }

  -- there is none more
  pub walk-ends : i ≤ limit → last_block s ≤ b → (accepted ≡ records_told exempt s) × (good_to exempt s ≡ i)
  unfolding records_told good_to
  walk-ends l h =
      let n = way_end s i (omega (arith, l)) w.under-way (rw w.here at h) in
      rw n (sym (told-end (record_told exempt s) i w.so-far), w.so-far)
