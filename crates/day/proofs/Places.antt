-- *Parts*: every body of an accepted file lies inside it, they follow one another, and together they fill it.
-- Assumes nothing.
use Prim.Native.Nat.{ℕ, ◌-◌, ◌<◌}
use mathlib.Core.Bool.{true, false}
use mathlib.Core.List.{List}
use mathlib.Core.Path.{◌≡◌, sym, ap}
use mathlib.Core.Logic.{⊎_elim}
use native.Mathlib.Omega.{arith}
use lib.ListN.{take}
use lib.Seq.{drop-drop}
use Rattle.laws.specs.Part.{part}
use Rattle.laws.specs.Sum.{sum}
use Rattle.laws.proofs.Bools.{either}
use Rattle.laws.proofs.Sums.{sum-start, sum_more, sum-up}
use Rattle.answers.specs.Lying.{From, Nowhere, is_one, case_of, first_of, size_of}
use Rattle.answers.specs.OfDay.{day_accepted, day_refuses}
use Rattle.answers.proofs.Lies.{one-true}
use Rattle.answers.proofs.OfDay.{day-number, day-zero}
use Rattle.day.specs.Contents.{end_in, count_in, length_in, bodies_in}
use Rattle.day.specs.Bodies.{body_in}
use Rattle.day.specs.Reading.{read_of, body_start, lies_in, shown_of}
use Rattle.day.specs.Parts.{Filled, Inside, Shows}
use Rattle.day.proofs.Exact.{read-listed, read-zero}
use Rattle.day.proofs.Cut.{long-said}

-- a body, by where it begins
pub body-there : (s : List ℕ) (i : ℕ) → body_in (length_in s) (bodies_in s) i ≡ part (body_start s i) (length_in s i) s
unfolding body_in bodies_in body_start part
body-there s i = ap (take (length_in s i)) (drop-drop (sum (length_in s) i) (end_in s) s)

-- *Parts*: they follow one another and fill the file
pub bodies-fill : (s : List ℕ) → read_of s ≡ day_accepted → Filled s
unfolding body_start
bodies-fill s e = record {
  first = omega (arith, sum-start (length_in s));
  next = λ i h. omega (arith, sum_more (length_in s) i);
  last = sym (long-said s (day-number e));
}

-- each lies inside, behind the contents, and is what its name says
pub body-inside : (s : List ℕ) → read_of s ≡ day_accepted → (i : ℕ) → i < count_in s → Inside s i
unfolding body_start
body-inside s e i h = record {
  behind = omega arith;
  within = omega (arith, long-said s (day-number e), sum-up (length_in s) (count_in s) i h);
  belongs = rw (← body-there s i) ((read-listed s (day-number e)).each i h);
}

-- a body is shown only of an accepted file, and then it is the one that was asked for
pub body-shown : (s : List ℕ) (k start size : ℕ) → (shown_of s k).lies ≡ From start size → Shows s k start size
unfolding shown_of lies_in
body-shown s k start size e = ⊎_elim bad good (either (day_refuses (read_of s)))
  where
    bad : day_refuses (read_of s) ≡ true → Shows s k start size
    bad t = absurd (let z : ◌≡◌ {A = ℕ} 0 1 = ap case_of (rw t at e) in omega arith)

    here : day_refuses (read_of s) ≡ false → is_one k (count_in s) ≡ true → Shows s k start size
    here f t =
        let a = read-zero s (day-zero (read_of s) f) in
        let p : From (body_start s (k - 1)) (length_in s (k - 1)) ≡ From start size = rw (f, t) at e in
        let one = one-true k (count_in s) t in
        record { good = a; least = one.0; most = one.1; from = sym (ap first_of p); long = sym (ap size_of p); inside = body-inside s a (k - 1) (omega (arith, one.0, one.1)) }

    nowhere : day_refuses (read_of s) ≡ false → is_one k (count_in s) ≡ false → Shows s k start size
    nowhere f n =
        let p : Nowhere ≡ From start size = rw (f, n) at e in
        absurd (let z : ◌≡◌ {A = ℕ} 2 1 = ap case_of p in omega arith)

    good : day_refuses (read_of s) ≡ false → Shows s k start size
    good f = ⊎_elim (here f) (nowhere f) (either (is_one k (count_in s)))
