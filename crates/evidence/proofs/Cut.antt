-- No proper prefix of an accepted file is accepted: it has the same header, so as many records, and ends at the same block.
-- Assumes nothing.
use Prim.Native.Nat.{ℕ, zero, suc, ◌+◌, ◌*◌, ◌≤◌, ◌<◌}
use mathlib.Core.Bool.{Bool, true, ◌&&◌}
use mathlib.Core.List.{List}
use mathlib.Core.Path.{◌≡◌, refl, sym, ◌∙◌, ap}
use native.Mathlib.Nat.{le_refl}
use native.Mathlib.Omega.{arith}
use borrow.Author.Tests.{eqb-true}
use lib.Dec.{eqb, leb}
use lib.ListN.{length, take}
use lib.Seq.{length-take-le}
use Rattle.laws.specs.Part.{part}
use Rattle.laws.proofs.Bools.{and_right}
use Rattle.laws.proofs.Parts.{part-take}
use Rattle.text.specs.Characters.{digits}
use Rattle.numbers.specs.Numbers.{value_of, says}
use Rattle.answers.specs.Answers.{accepted}
use Rattle.evidence.specs.Blocks.{block, blocks_in, last_block, block_at, length_at, next_of, start_of, records_in}
use Rattle.evidence.specs.Reading.{read_of}
use Rattle.evidence.specs.Stages.{Stages}
use Rattle.evidence.proofs.Walks.{record-begins}
use Rattle.evidence.proofs.Stages.{stages-exact}
use Rattle.evidence.proofs.Exact.{start-last}

-- what is said is the number
pub said : (s : List ℕ) (n : ℕ) → says s n ≡ true → value_of s ≡ n
unfolding says
said s n t = eqb-true (value_of s) n (and_right (digits s) (eqb (value_of s) n) (and_right (leb (length s) 19) (digits s && eqb (value_of s) n) t))

module _ (exempt : Bool) (s : List ℕ) (m : ℕ) (h : m ≤ length s) (whole : Stages exempt s) (cut : Stages exempt (take m s)) where
  cut-long : blocks_in (take m s) * block ≡ m
  cut-long = sym cut.sizes.whole ∙ length-take-le m s h

  -- what stands within the cut is what stood there
  same-part : (a b : ℕ) → a + b ≤ m → part a b (take m s) ≡ part a b s
  same-part a b l = part-take a b m s l h

  same-header : block_at (take m s) 0 ≡ block_at s 0
  unfolding block_at
  same-header = same-part 0 block (omega (arith, cut-long, cut.sizes.fewest))

  same_count : records_in (take m s) ≡ records_in s
  same_count =
      sym (said (part 43 7 (block_at (take m s) 0)) (records_in (take m s)) cut.counts.header) ∙
      (ap (λ (x : List ℕ). value_of (part 43 7 x)) same-header ∙ said (part 43 7 (block_at s 0)) (records_in s) whole.counts.header)

  same_length : (b : ℕ) → b < last_block (take m s) → length_at (take m s) b ≡ length_at s b
  unfolding length_at
  same_length b l = ap value_of (same-part (b * block + 112) 7 (omega (arith, cut-long)))

  -- so both walks go the same way
  same_start : (i : ℕ) → i ≤ records_in (take m s) → start_of (take m s) i ≡ start_of s i
  unfolding start_of next_of
  same_start zero l = refl
  same_start (suc i) l =
      rw (same_length (start_of (take m s) i) (record-begins (take m s) i l), same_start i (omega arith))

  same_end : length (take m s) ≡ length s
  same_end =
      omega (
        arith,
        start-last exempt s whole,
        start-last exempt (take m s) cut,
        same_start (records_in (take m s)) (le_refl (records_in (take m s))),
        ap (start_of s) same_count,
        whole.sizes.whole,
        whole.sizes.fewest,
        cut.sizes.whole,
        cut.sizes.fewest,
      )

-- *Cut short*
pub cut_short : (exempt : Bool) (s : List ℕ) (m : ℕ) → m < length s → read_of exempt s ≡ accepted → read_of exempt (take m s) ≡ accepted → ⊥
cut_short exempt s m h a b =
    let l : m ≤ length s = omega arith in
    let e = same_end exempt s m l ((stages-exact exempt s).0 a) ((stages-exact exempt (take m s)).0 b) in
    omega (arith, length-take-le m s l)
