-- No proper prefix of an accepted day file is accepted: it has the same contents, and these say how long it is.
-- Assumes nothing.
use Prim.Native.Nat.{ℕ, ◌+◌, ◌≤◌, ◌<◌}
use mathlib.Core.List.{List}
use mathlib.Core.Path.{◌≡◌, refl, ◌∙◌, ap}
use native.Mathlib.Omega.{arith}
use lib.ListN.{length, take, length-drop}
use lib.Seq.{length-take-le, get_or-take}
use Rattle.laws.specs.Sum.{sum}
use Rattle.laws.proofs.Parts.{part-take}
use Rattle.laws.proofs.Sums.{sum_same}
use Rattle.numbers.specs.Numbers.{value_of}
use Rattle.answers.specs.OfDay.{day_accepted}
use Rattle.answers.proofs.OfDay.{day-number}
use Rattle.day.specs.Contents.{width_of, entry_at, end_in, width_in, count_in, digits_in, length_in, bodies_in}
use Rattle.day.specs.Reading.{read_of}
use Rattle.day.specs.First.{Contents}
use Rattle.day.proofs.Contained.{entry-inside}
use Rattle.day.proofs.Told.{read-contents}
use Rattle.day.proofs.Exact.{read-listed}

-- an accepted file is as long as its contents say
pub long-said : (s : List ℕ) → (read_of s).number ≡ 0 → length s ≡ end_in s + sum (length_in s) (count_in s)
unfolding bodies_in
long-said s z =
    let c = read-contents s z in
    omega (arith, c.whole, (read-listed s z).all ∙ length-drop (end_in s) s)

module _ (s : List ℕ) (m : ℕ) (h : m ≤ length s) (c : Contents (take m s)) where
  cut-long : length (take m s) ≡ m
  cut-long = length-take-le m s h

  same_count : count_in (take m s) ≡ count_in s
  unfolding count_in
  same_count = ap value_of (part-take 1 2 m s (omega (arith, cut-long, c.fewest)) h)

  same_width : width_in (take m s) ≡ width_in s
  unfolding width_in
  same_width = ap width_of (get_or-take m s 0 0 (omega (arith, cut-long, c.fewest)))

  same_length : (i : ℕ) → i < count_in (take m s) → length_in (take m s) i ≡ length_in s i
  unfolding length_in digits_in
  same_length i l =
      let w = width_in (take m s) in
      rw (← same_width) (ap value_of (part-take (entry_at w i + 8) w m s (omega (arith, cut-long, entry-inside (take m s) w (count_in (take m s)) i c.whole l)) h))

  same_sum : sum (length_in (take m s)) (count_in (take m s)) ≡ sum (length_in s) (count_in s)
  same_sum = sum_same (length_in (take m s)) (length_in s) (count_in (take m s)) same_length ∙ ap (sum (length_in s)) same_count

-- *Cut short*
pub cut_short : (s : List ℕ) (m : ℕ) → m < length s → read_of s ≡ day_accepted → read_of (take m s) ≡ day_accepted → ⊥
cut_short s m h a b =
    let l : m ≤ length s = omega arith in
    let c = read-contents (take m s) (day-number b) in
    let end : end_in (take m s) ≡ end_in s = rw (same_width s m l c, same_count s m l c) refl in
    omega (arith, long-said s (day-number a), long-said (take m s) (day-number b), cut-long s m l c, end, same_sum s m l c)
