-- What a good length says: a whole number of records, at least two and not too many.
-- Assumes nothing.
use Prim.Native.Nat.{ℕ, ◌+◌, ◌*◌, ◌%◌, ◌≤◌}
use mathlib.Core.Bool.{true, false}
use mathlib.Core.List.{List}
use mathlib.Core.Path.{◌≡◌, sym, ◌∙◌, ap}
use mathlib.Core.Logic.{⊎_elim}
use native.Mathlib.Nat.{div-add-mod', mul-mod_left}
use native.Mathlib.Omega.{arith}
use borrow.Author.Tests.{eqb-true, leb-true, eq-eqb, le-leb}
use lib.Dec.{eqb, leb}
use lib.ListN.{length}
use Rattle.laws.proofs.Bools.{and_left, and_right, either}
use Rattle.answers.specs.declared.told.Answer.{Answer}
use Rattle.kinds.specs.declared.of_files.Kind.{Kind}
use Rattle.answers.specs.Answers.{accepted, refused}
use Rattle.kinds.specs.Kinds.{fixed_of, limit}
use Rattle.records.specs.Records.{count_of}
use Rattle.reader.specs.Reading.{is_whole, length_tells}
use Rattle.reader.specs.Meets.{Lengths}

module _ (k : Kind) (s : List ℕ) where
  whole-even : is_whole k (length s) ≡ true → length s ≡ count_of k s * (fixed_of k).size
  unfolding is_whole count_of
  whole-even t =
      let even = eqb-true (length s % (fixed_of k).size) 0 (and_left (eqb (length s % (fixed_of k).size) 0) (leb 2 (count_of k s)) t) in
      omega (arith, div-add-mod' (length s) (fixed_of k).size, even)

  whole-two : is_whole k (length s) ≡ true → 2 ≤ count_of k s
  unfolding is_whole count_of
  whole-two t = leb-true 2 (count_of k s) (and_right (eqb (length s % (fixed_of k).size) 0) (leb 2 (count_of k s)) t)

  -- the three cases of the length
  pub length-short : is_whole k (length s) ≡ false → length_tells k (length s) ≡ refused 2
  unfolding length_tells
  length-short f = rw f

  pub length-long : is_whole k (length s) ≡ true → leb (count_of k s) (limit + 2) ≡ false → length_tells k (length s) ≡ refused 3
  unfolding length_tells count_of
  length-long t f = rw (t, f)

  pub length-right : is_whole k (length s) ≡ true → leb (count_of k s) (limit + 2) ≡ true → length_tells k (length s) ≡ accepted
  unfolding length_tells count_of
  length-right t u = rw (t, u)

  number : Answer → ℕ
  number a = a.number

  pub length-good : (length_tells k (length s)).number ≡ 0 → Lengths k s
  unfolding number
  length-good e = ⊎_elim whole short (either (is_whole k (length s)))
    where
      short : is_whole k (length s) ≡ false → Lengths k s
      short f = absurd (let z : ◌≡◌ {A = ℕ} 2 0 = sym (ap number (length-short f)) ∙ e in omega arith)

      fits : is_whole k (length s) ≡ true → leb (count_of k s) (limit + 2) ≡ true → Lengths k s
      fits t u = record { whole = whole-even t; fewest = whole-two t; most = leb-true (count_of k s) (limit + 2) u }

      long : is_whole k (length s) ≡ true → leb (count_of k s) (limit + 2) ≡ false → Lengths k s
      long t f = absurd (let z : ◌≡◌ {A = ℕ} 3 0 = sym (ap number (length-long t f)) ∙ e in omega arith)

      whole : is_whole k (length s) ≡ true → Lengths k s
      whole t = ⊎_elim (fits t) (long t) (either (leb (count_of k s) (limit + 2)))

  pub good_length : Lengths k s → length_tells k (length s) ≡ accepted
  unfolding is_whole count_of
  good_length l = length-right (rw (eq-eqb (length s % (fixed_of k).size) 0 even, le-leb 2 (count_of k s) l.fewest)) (le-leb (count_of k s) (limit + 2) l.most)
    where
      even : length s % (fixed_of k).size ≡ 0
      even = rw l.whole (mul-mod_left (count_of k s) (fixed_of k).size)
