-- What a row that holds says of the bytes of its item: where the class leaves no choice, the bytes are known.
-- Assumes nothing.
use Prim.Native.Nat.{ℕ, zero, suc, ◌+◌, ◌-◌, ◌≤◌, ◌<◌}
use mathlib.Core.Bool.{Bool, true, ◌&&◌}
use mathlib.Core.List.{List, [], ◌∷◌}
use mathlib.Core.Path.{◌≡◌, sym, ◌∙◌, ap}
use native.Mathlib.Nat.{le_antisymm, le_of_suc-le-suc, not-suc-le-zero}
use native.Mathlib.Omega.{arith}
use borrow.Author.Tests.{eqb-true}
use lib.Dec.{leb, eqb}
use lib.ListN.{length, get_or}
use Rattle.laws.specs.Part.{part, same}
use Rattle.laws.proofs.Bools.{and_left, and_right}
use Rattle.laws.proofs.Every.{every}
use Rattle.laws.proofs.Parts.{part_length, part_at, same-equal}
use Rattle.text.specs.Characters.{each, digits}
use Rattle.numbers.specs.Numbers.{value_of, says, digits_of, word_of, letter_of}
use Rattle.text.proofs.Classes.{within_low, within-high, each_at}
use Rattle.numbers.proofs.Values.{digits_value}
use Rattle.reader.proofs.Accepted.{says-value}
use Rattle.kinds.specs.declared.of_files.Kind.{Kind}
use Rattle.kinds.specs.declared.of_files.Role.{Role}
use Rattle.tables.specs.declared.row.Row.{Row}
use Rattle.kinds.specs.Kinds.{fixed_of}
use Rattle.tables.specs.Rows.{blank}
use Rattle.tables.specs.Tables.{rows_of}
use Rattle.tables.proofs.Tiling.{row_inside}
use Rattle.layout.specs.Rules.{holds}
use Rattle.layout.proofs.Judged.{All-hold}
use Rattle.builder.specs.Bytes.{row_over}
use Rattle.writer.specs.Says.{Bytes}
use Rattle.builder.proofs.Over.{row-over}

-- a place of a part
pub part-place : (s : List ℕ) (a m j : ℕ) → a ≤ j → j < a + m → get_or (part a m s) (j - a) 0 ≡ get_or s j 0
part-place s a m j l h = part_at a m s (j - a) (omega arith) ∙ ap (λ (x : ℕ). get_or s x 0) (omega arith)

-- one byte all along
pub only-place : (s : List ℕ) (a m b : ℕ) → a + m ≤ length s → each b b (part a m s) ≡ true → (j : ℕ) → a ≤ j → j < a + m → b ≡ get_or s j 0
only-place s a m b inside t j l h =
    let w = each_at b b (part a m s) t (j - a) (rw (part_length a m s inside) (omega arith)) in
    le_antisymm (within_low b b _ w) (within-high b b _ w) ∙ part-place s a m j l h

-- the same bytes as another's
pub same_place : (s o : List ℕ) (a m : ℕ) → same (part a m s) (part a m o) ≡ true → (j : ℕ) → a ≤ j → j < a + m → get_or o j 0 ≡ get_or s j 0
same_place s o a m t j l h =
    sym (part-place o a m j l h) ∙ (ap (λ (x : List ℕ). get_or x (j - a) 0) (sym (same-equal (part a m s) (part a m o) t)) ∙ part-place s a m j l h)

-- the digits of a number
pub says-digits : (s : List ℕ) (n m : ℕ) → length s ≡ m → says s n ≡ true → digits_of m n ≡ s
unfolding says
says-digits s n m e t =
    rw (← e, ← says-value s n t) (digits_value s (and_left (digits s) (eqb (value_of s) n) (and_right (leb (length s) 19) (digits s && eqb (value_of s) n) t)))

pub says-place : (s : List ℕ) (a m n : ℕ) → a + m ≤ length s → says (part a m s) n ≡ true → (j : ℕ) → a ≤ j → j < a + m → get_or (digits_of m n) (j - a) 0 ≡ get_or s j 0
says-place s a m n inside t j l h = rw (says-digits (part a m s) n m (part_length a m s inside) t) (part-place s a m j l h)

-- the letters of a name
word-letter : (s : List ℕ) → ((i : ℕ) → i < 4 → get_or s i 0 < 256) → (i : ℕ) → i < 4 → letter_of (word_of s) i ≡ get_or s i 0
unfolding word_of letter_of
word-letter s b = letter (b 0 (omega arith)) (b 1 (omega arith)) (b 2 (omega arith)) (b 3 (omega arith))
  where
    letter : get_or s 0 0 < 256 → get_or s 1 0 < 256 → get_or s 2 0 < 256 → get_or s 3 0 < 256 → (i : ℕ) → i < 4 → letter_of (word_of s) i ≡ get_or s i 0
    letter p q r t zero h = omega arith
    letter p q r t (suc zero) h = omega arith
    letter p q r t (suc (suc zero)) h = omega arith
    letter p q r t (suc (suc (suc zero))) h = omega arith
    letter p q r t (suc (suc (suc (suc i)))) h = absurd (omega arith)

pub word-place :
    (s : List ℕ) (a name : ℕ) → a + 4 ≤ length s → Bytes s → eqb (word_of (part a 4 s)) name ≡ true →
    (j : ℕ) → a ≤ j → j < a + 4 → letter_of name (j - a) ≡ get_or s j 0
word-place s a name inside b t j l h =
    rw (← eqb-true (word_of (part a 4 s)) name t)
    (word-letter (part a 4 s) (λ i l. rw (part_at a 4 s i l) (b (a + i) (omega arith))) (j - a) (omega arith) ∙ part-place s a 4 j l h)

-- every row of a table is so
infixr 5 ◌also◌
pub data All (P : Row → Type 0) : List Row → Type 0 where
  end : All P []
  ◌also◌ : {r : Row} {rows : List Row} → P r → All P rows → All P (r ∷ rows)

pub all-at : (P : Row → Type 0) (rows : List Row) → All P rows → (i : ℕ) → i < length rows → P (get_or rows i blank)
all-at P [] end i h = absurd (not-suc-le-zero h)
all-at P (r ∷ rows) (p also q) zero h = p
all-at P (r ∷ rows) (p also q) (suc i) h = all-at P rows q i (le_of_suc-le-suc h)

-- by one test that is computed
pub all-every : (P : Row → Type 0) (p : Row → Bool) → ((r : Row) → p r ≡ true → P r) → (rows : List Row) → every p rows ≡ true → All P rows
all-every P p f [] t = end
all-every P p f (r ∷ rows) t = f r (and_left (p r) (every p rows) t) also all-every P p f rows (and_right (p r) (every p rows) t)

module _ (k : Kind) (rec header : List ℕ) (n : ℕ) (fill : Row → ℕ → ℕ) (top : ℕ) where
  -- where a row holds, what it would write at its places below `top` is what stands there
  abbrev pub Back : Row → Type 0
  Back r = r.1 + r.2 ≤ length rec → holds k.own rec header n r ≡ true → (j : ℕ) → r.1 ≤ j → j < r.1 + r.2 → j < top → fill r j ≡ get_or rec j 0

  -- so at every place, if every row is so and holds
  pub back_at :
      (role : Role) → length rec ≡ (fixed_of k).size → All Back (rows_of k role) → All-hold k.own (rows_of k role) rec header n →
      (j : ℕ) → j < (fixed_of k).size → j < top → fill (row_over (rows_of k role) j) j ≡ get_or rec j 0
  back_at role long all hold j h t =
      let i = (row-over k role j h).0 in
      let o = (row-over k role j h).1 in
      rw o.is
      (all-at Back (rows_of k role) all i o.inside (rw long (row_inside k role i o.inside)) (hold i o.inside) j o.low o.high t)

-- the same for each class of row, as `Back` asks it; `top` is not used
module _ (s : List ℕ) (top : ℕ) where
  pub given_back : {A : Type 0} (a m : ℕ) → a + m ≤ length s → A → (j : ℕ) → a ≤ j → j < a + m → j < top → get_or (part a m s) (j - a) 0 ≡ get_or s j 0
  given_back a m i t j l h b = part-place s a m j l h

  pub only-back : (a m b : ℕ) → a + m ≤ length s → each b b (part a m s) ≡ true → (j : ℕ) → a ≤ j → j < a + m → j < top → b ≡ get_or s j 0
  only-back a m b i t j l h x = only-place s a m b i t j l h

  pub same_back : (o : List ℕ) (a m : ℕ) → a + m ≤ length s → same (part a m s) (part a m o) ≡ true → (j : ℕ) → a ≤ j → j < a + m → j < top → get_or o j 0 ≡ get_or s j 0
  same_back o a m i t j l h b = same_place s o a m t j l h

  pub says_back : (n a m : ℕ) → a + m ≤ length s → says (part a m s) n ≡ true → (j : ℕ) → a ≤ j → j < a + m → j < top → get_or (digits_of m n) (j - a) 0 ≡ get_or s j 0
  says_back n a m i t j l h b = says-place s a m n i t j l h

  pub total-back : {A : Type 0} (n a m : ℕ) → says (part a m s) n ≡ true → a + m ≤ length s → A → (j : ℕ) → a ≤ j → j < a + m → j < top → get_or (digits_of m n) (j - a) 0 ≡ get_or s j 0
  total-back n a m t i u j l h b = says-place s a m n i t j l h

  pub word_back :
      (name a : ℕ) → Bytes s → a + 4 ≤ length s → eqb (word_of (part a 4 s)) name ≡ true →
      (j : ℕ) → a ≤ j → j < a + 4 → j < top → letter_of name (j - a) ≡ get_or s j 0
  word_back name a bytes i t j l h b = word-place s a name i bytes t j l h
