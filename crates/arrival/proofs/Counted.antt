-- What is counted: the same however the bytes came, and a length is told by it as by the number itself.
-- Assumes nothing.
use Prim.Native.Nat.{ℕ, ◌+◌, ◌*◌, ◌/◌, ◌%◌, ◌∣◌, ◌≤◌, ◌<◌}
use mathlib.Core.Bool.{true, false, cond, and-true}
use mathlib.Core.Path.{◌≡◌, refl, sym, ◌∙◌, ap}
use mathlib.Core.Logic.{⊎_elim}
use native.Mathlib.Nat.{add_comm, add_assoc, mod-lt, mod-mod, mod-mod_of_dvd, mod-add-mod, mul-add-mod_self_right, le_trans, dvd_of_mod-eq-zero, le-div_iff_mul-le}
use native.Mathlib.Omega.{arith}
use borrow.Author.Tests.{ltb-true, ltb-false, lt-ltb, le-ltb, leb-true, eqb-true, le-leb, lt-leb}
use lib.Dec.{eqb, leb, ltb}
use Rattle.laws.proofs.Bools.{either}
use Rattle.answers.specs.Answers.{refused}
use Rattle.kinds.specs.declared.of_files.Kind.{Kind}
use Rattle.kinds.specs.Kinds.{fixed_for, fixed_of, limit}
use Rattle.kinds.proofs.Forms.{of-form}
use Rattle.records.specs.Records.{count_in}
use Rattle.records.proofs.Places.{size-pos}
use Rattle.reader.specs.Reading.{is_whole, length_tells}
use Rattle.arrival.specs.Counting.{longest, cycle, turn, counted}

pub counted-low : (n : ℕ) → n < turn → counted n ≡ n
unfolding counted
counted-low n l = rw (lt-ltb n turn l)

pub counted-high : (n : ℕ) → turn ≤ n → counted n ≡ turn + n % cycle
unfolding counted
counted-high n l = rw (le-ltb n turn l)

-- nothing is counted as nothing, and only that
pub counted_none : counted 0 ≡ 0
counted_none = counted-low 0 (omega arith)

pub counted-some : (n : ℕ) → 0 < n → 0 < counted n
counted-some n p = ⊎_elim low high (either (ltb n turn))
  where
    low : ltb n turn ≡ true → 0 < counted n
    low t = rw (counted-low n (ltb-true n turn t)) p

    high : ltb n turn ≡ false → 0 < counted n
    high f = rw (counted-high n (ltb-false n turn f)) (omega arith)

-- a count has an end
pub counted-small : (n : ℕ) → counted n < turn + cycle
counted-small n = ⊎_elim low high (either (ltb n turn))
  where
    low : ltb n turn ≡ true → counted n < turn + cycle
    low t = rw (counted-low n (ltb-true n turn t)) (omega (arith, ltb-true n turn t))

    high : ltb n turn ≡ false → counted n < turn + cycle
    high f = rw (counted-high n (ltb-false n turn f)) (omega (arith, mod-lt n {m = cycle} (omega arith)))

-- what was counted may be counted on
pub counted-on : (n m : ℕ) → counted (counted n + m) ≡ counted (n + m)
counted-on n m = ⊎_elim low high (either (ltb n turn))
  where
    low : ltb n turn ≡ true → counted (counted n + m) ≡ counted (n + m)
    low t = rw (counted-low n (ltb-true n turn t))

    high : ltb n turn ≡ false → counted (counted n + m) ≡ counted (n + m)
    high f =
        let l = ltb-false n turn f in
        rw (counted-high n l) (counted-high (turn + n % cycle + m) (omega arith) ∙ (ap (λ x. turn + x) over ∙ sym (counted-high (n + m) (omega (arith, l)))))
      where
        over : (turn + n % cycle + m) % cycle ≡ (n + m) % cycle
        over = rw (add_assoc turn (n % cycle) m) (mul-add-mod_self_right (longest / cycle + 1) cycle (n % cycle + m) ∙ mod-add-mod n cycle m)

pub on-counted : (n m : ℕ) → counted (n + counted m) ≡ counted (n + m)
on-counted n m = rw (add_comm n (counted m), add_comm n m) (counted-on m n)

-- computed over all forms: a cycle is whole records, and at the turn there are too many
cycle-whole : (k : Kind) → cycle % (fixed_of k).size ≡ 0
cycle-whole k = eqb-true _ _ (of-form (λ f. eqb (cycle % (fixed_for f).size) 0) refl k.form)

turn-over : (k : Kind) → (limit + 3) * (fixed_of k).size ≤ turn
turn-over k = leb-true _ _ (of-form (λ f. leb ((limit + 3) * (fixed_for f).size) turn) refl k.form)

-- no file that the limit allows is longer
pub longest-file : (k : Kind) → (limit + 2) * (fixed_of k).size ≤ longest
longest-file k = leb-true _ _ (of-form (λ f. leb ((limit + 2) * (fixed_for f).size) longest) refl k.form)

-- a length from the turn on is 2 or 3 by what it has over whole records
length_over : (k : Kind) (n : ℕ) → turn ≤ n → length_tells k n ≡ cond (eqb (n % (fixed_of k).size) 0) (refused 3) (refused 2)
unfolding is_whole length_tells
length_over k n l = rw (le-leb 2 (count_in k n) (omega (arith, many)), lt-leb (count_in k n) (limit + 2) (omega (arith, many)), and-true)
  where
    many : limit + 3 ≤ count_in k n
    many = (le-div_iff_mul-le {k = (fixed_of k).size} {x = limit + 3} {y = n} (size-pos k)).1 (le_trans (turn-over k) l)

-- *Any length*: it is told by what is counted as by the number itself
pub length-counted : (k : Kind) (n : ℕ) → length_tells k (counted n) ≡ length_tells k n
length-counted k n = ⊎_elim low high (either (ltb n turn))
  where
    low : ltb n turn ≡ true → length_tells k (counted n) ≡ length_tells k n
    low t = rw (counted-low n (ltb-true n turn t))

    high : ltb n turn ≡ false → length_tells k (counted n) ≡ length_tells k n
    high f =
        let l = ltb-false n turn f in
        rw (counted-high n l)
        (length_over k (turn + n % cycle) (omega arith) ∙ (ap (λ x. cond (eqb x 0) (refused 3) (refused 2)) over ∙ sym (length_over k n l)))
      where
        whole : (fixed_of k).size ∣ cycle
        whole = dvd_of_mod-eq-zero (fixed_of k).size {n = cycle} (cycle-whole k)

        over : (turn + n % cycle) % (fixed_of k).size ≡ n % (fixed_of k).size
        over =
            sym (mod-mod_of_dvd (fixed_of k).size {b = cycle} (turn + n % cycle) whole) ∙
            (ap (λ x. x % (fixed_of k).size) (mul-add-mod_self_right (longest / cycle + 1) cycle (n % cycle) ∙ mod-mod n cycle) ∙
            mod-mod_of_dvd (fixed_of k).size {b = cycle} n whole)
