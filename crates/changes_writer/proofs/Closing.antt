-- The items of the trailer of an EB12: the totals that are stored, and those that stay.
-- Assumes nothing.
use Prim.Native.Nat.{ℕ, zero, suc, ◌+◌, ◌-◌, ◌*◌, ◌^◌, ◌≤◌, ◌<◌}
use mathlib.Core.Bool.{Bool, true, false, not, ◌||◌}
use mathlib.Core.List.{List}
use mathlib.Core.Logic.{◌⊎◌, ⊎_elim}
use mathlib.Core.Path.{◌≡◌, refl, ◌∙◌, ap}
use native.Mathlib.Omega.{arith}
use borrow.Author.Tests.{eqb-true, le-leb, leb-true, ltb-true, ltb-false, not-false}
use lib.Dec.{eqb, leb, ltb}
use lib.ListN.{length, replicate}
use Rattle.laws.specs.Least.{least, further, none}
use Rattle.laws.specs.Part.{part}
use Rattle.laws.specs.Stored.{stored}
use Rattle.laws.proofs.Bools.{either, or_cases, or_left}
use Rattle.laws.proofs.Leasts.{none_each}
use Rattle.laws.proofs.Parts.{part_length}
use Rattle.laws.proofs.Stores.{stored-length, stored_here, stored-before, stored-behind}
use Rattle.numbers.specs.Numbers.{digits_of, value_of}
use Rattle.numbers.proofs.Values.{digits-length, value-digits, value-size}
use Rattle.kinds.specs.Kinds.{EB11}
use Rattle.tables.specs.Totals.{enrolment_totals, totals_of}
use Rattle.records.specs.Records.{record_at, count_of, trailer_of}
use Rattle.records.proofs.Places.{record-inside}
use Rattle.reader.specs.Meets.{Meets}
use Rattle.reader.proofs.Accepted.{total-value}
use Rattle.reader.proofs.Places.{total_inside}
use Rattle.changes_writer.specs.Building.{name, refused_of, total_in, totals_to, trailer_for}
use Rattle.changes_writer.specs.Says.{Closed}
use Rattle.changes_writer.proofs.Built.{totals-length}
use Rattle.changes_writer.proofs.Counts.{adds-up}
use Rattle.changes_writer.proofs.Items.{named_here, named-before, named-behind}

abbrev many : ℕ
many = length (totals_of EB11)

-- one computed test at each total
each-total : (p : ℕ → Bool) → none (λ t. not (p t)) many ≡ true → (t : ℕ) → t < many → p t ≡ true
each-total p all t h = not-false (p t) (none_each (λ u. not (p u)) many all t h)

-- each has eight digits, none begins before byte 27, and each ends before a later one begins
all-eight : none (λ u. not (eqb (total_in u).2 8)) many ≡ true
unfolding none least further enrolment_totals
all-eight = refl

eight : (t : ℕ) → t < many → (total_in t).2 ≡ 8
eight t h = eqb-true (total_in t).2 8 (each-total (λ u. eqb (total_in u).2 8) all-eight t h)

all_start : none (λ u. not (leb 27 (total_in u).1)) many ≡ true
unfolding none least further enrolment_totals
all_start = refl

starts : (t : ℕ) → t < many → 27 ≤ (total_in t).1
starts t h = leb-true 27 (total_in t).1 (each-total (λ u. leb 27 (total_in u).1) all_start t h)

-- total t ends before total u begins
ends : ℕ → ℕ → Bool
ends u t = leb ((total_in t).1 + (total_in t).2) (total_in u).1

all_end : none (λ u. not (none (λ t. not (ends u t)) u)) many ≡ true
unfolding none least further enrolment_totals ends
all_end = refl

ordered : (t u : ℕ) → t < u → u < many → (total_in t).1 + (total_in t).2 ≤ (total_in u).1
unfolding ends
ordered t u l h =
    leb-true ((total_in t).1 + (total_in t).2) (total_in u).1
    (not-false (ends u t) (none_each (λ v. not (ends u v)) u (each-total (λ v. none (λ w. not (ends v w)) v) all_end u h) t l))

-- bytes that no total takes
clear : ℕ → ℕ → ℕ → Bool
clear a c t = leb (a + c) (total_in t).1 || leb ((total_in t).1 + (total_in t).2) a

module _ (s answers base : List ℕ) (long : length base ≡ 120) where
  abbrev sum_in : ℕ → ℕ
  sum_in t = refused_of s answers (total_in t).3

  abbrev digits_in : ℕ → List ℕ
  digits_in t = digits_of (total_in t).2 (sum_in t)

  fits : (t : ℕ) → t < many → (total_in t).1 + length (digits_in t) ≤ length (totals_to s answers base t)
  fits t h = rw (digits-length (total_in t).2 (sum_in t), totals-length s answers base long t (omega arith)) (total_inside EB11 t h)

  -- they stay
  stays : (a c t : ℕ) → t ≤ many → ((u : ℕ) → u < t → clear a c u ≡ true) → part a c (totals_to s answers base t) ≡ part a c base
  unfolding totals_to clear
  stays a c zero h f = refl
  stays a c (suc t) h f =
      step (or_cases (leb (a + c) (total_in t).1) (leb ((total_in t).1 + (total_in t).2) a) (f t (omega arith))) ∙ stays a c t (omega arith) (λ u l. f u (omega arith))
    where
      step :
          (leb (a + c) (total_in t).1 ≡ true) ⊎ (leb ((total_in t).1 + (total_in t).2) a ≡ true) →
          part a c (stored (total_in t).1 (digits_in t) (totals_to s answers base t)) ≡ part a c (totals_to s answers base t)
      step =
          ⊎_elim
          (λ b. stored-before (total_in t).1 (digits_in t) (totals_to s answers base t) (fits t (omega arith)) a c (leb-true (a + c) (total_in t).1 b))
          (λ b. stored-behind (total_in t).1 (digits_in t) (totals_to s answers base t) (fits t (omega arith)) a c (rw (digits-length (total_in t).2 (sum_in t)) (leb-true ((total_in t).1 + (total_in t).2) a b)))

  -- each total's digits stand at its item
  stands : (t u : ℕ) → u < t → t ≤ many → part (total_in u).1 (total_in u).2 (totals_to s answers base t) ≡ digits_in u
  unfolding totals_to
  stands zero u l h = absurd (omega arith)
  stands (suc t) u l h = ⊎_elim (earlier (λ k. stands t u k (omega arith))) last (either (ltb u t))
    where
      earlier :
          (u < t → part (total_in u).1 (total_in u).2 (totals_to s answers base t) ≡ digits_in u) → ltb u t ≡ true →
          part (total_in u).1 (total_in u).2 (stored (total_in t).1 (digits_in t) (totals_to s answers base t)) ≡ digits_in u
      earlier before b =
          let k = ltb-true u t b in
          stored-before (total_in t).1 (digits_in t) (totals_to s answers base t) (fits t (omega arith)) (total_in u).1 (total_in u).2 (ordered u t k (omega arith)) ∙ before k

      last : ltb u t ≡ false → part (total_in u).1 (total_in u).2 (stored (total_in t).1 (digits_in t) (totals_to s answers base t)) ≡ digits_in u
      last b =
          let e : u ≡ t = omega (arith, ltb-false u t b) in
          rw e (stored_here (total_in t).1 (digits_in t) (totals_to s answers base t) (fits t (omega arith)) (total_in t).2 (digits-length (total_in t).2 (sum_in t)))

-- bytes that are clear of all totals, by one computed test each
zeros-clear : none (λ u. not (clear 43 8 u)) many ≡ true
unfolding none least further enrolment_totals clear
zeros-clear = refl

blank-clear : none (λ u. not (clear 67 43 u)) many ≡ true
unfolding none least further enrolment_totals clear
blank-clear = refl

mac-clear : none (λ u. not (clear 110 10 u)) many ≡ true
unfolding none least further enrolment_totals clear
mac-clear = refl

front-clear : (a c : ℕ) → a + c ≤ 27 → (t : ℕ) → t < many → clear a c t ≡ true
unfolding clear
front-clear a c h t l =
    or_left (leb (a + c) (total_in t).1) (leb ((total_in t).1 + (total_in t).2) a) (le-leb (a + c) (total_in t).1 (omega (arith, starts t l)))

module _ (s answers : List ℕ) (m : Meets EB11 s) where
  abbrev old : List ℕ
  old = trailer_of EB11 s

  pub old-long : length old ≡ 120
  unfolding record_at
  old-long = part_length ((count_of EB11 s - 1) * 120) 120 s (record-inside EB11 s (count_of EB11 s - 1) (omega (arith, m.lengths.fewest)))

  abbrev named : List ℕ
  named = stored 19 name old

  named-long : length named ≡ 120
  unfolding name
  named-long = stored-length 19 name old (omega (arith, old-long)) ∙ old-long

  abbrev blank : List ℕ
  blank = replicate 10 0x20

  abbrev base : List ℕ
  base = stored 110 blank named

  base-fits : 110 + length blank ≤ length named
  base-fits = omega (arith, named-long)

  base-long : length base ≡ 120
  base-long = stored-length 110 blank named base-fits ∙ named-long

  abbrev sum_of : ℕ → ℕ
  sum_of t = refused_of s answers (total_in t).3

  -- a total of the refused records has no more digits than that of all
  pub total-small : (t : ℕ) → t < many → sum_of t < 10 ^ 8
  total-small t h =
      let all = total-value EB11 s m t h in
      let small = value-size (part (total_in t).1 (total_in t).2 old) 8 (part_length (total_in t).1 (total_in t).2 old (rw old-long (total_inside EB11 t h)) ∙ eight t h) in
      omega (arith, all, small, adds-up s answers (total_in t).3)

  pub total-digits : (t : ℕ) → t < many → part (total_in t).1 (total_in t).2 (trailer_for s answers) ≡ digits_of 8 (sum_of t)
  unfolding trailer_for
  total-digits t h = stands s answers base base-long many t h (omega arith) ∙ ap (λ (w : ℕ). digits_of w (sum_of t)) (eight t h)

  -- what no total takes is as it was before them
  kept : (a c : ℕ) → ((t : ℕ) → t < many → clear a c t ≡ true) → part a c (trailer_for s answers) ≡ part a c base
  unfolding trailer_for
  kept a c f = stays s answers base base-long a c many (omega arith) f

  -- and but for the MAC as it was in the EB11
  kept-named : (a c : ℕ) → a + c ≤ 110 → ((t : ℕ) → t < many → clear a c t ≡ true) → part a c (trailer_for s answers) ≡ part a c named
  kept-named a c h f = kept a c f ∙ stored-before 110 blank named base-fits a c h

  in-front : (a c : ℕ) → a + c ≤ 27 → part a c (trailer_for s answers) ≡ part a c named
  in-front a c h = kept-named a c (omega arith) (front-clear a c h)

  pub trailer-front : (a c : ℕ) → a + c ≤ 19 → part a c (trailer_for s answers) ≡ part a c old
  trailer-front a c h = in-front a c (omega arith) ∙ named-before old old-long a c h

  pub closed : Closed s answers old (trailer_for s answers)
  closed = record {
    before = trailer-front 0 19 (omega arith);
    named = in-front 19 4 (omega arith) ∙ named_here old old-long;
    day = in-front 23 4 (omega arith) ∙ named-behind old old-long 23 4 (omega arith);
    totals = λ t h. ap value_of (total-digits t h) ∙ value-digits 8 (sum_of t) (total-small t h);
    zeros = kept-named 43 8 (omega arith) (each-total (clear 43 8) zeros-clear) ∙ named-behind old old-long 43 8 (omega arith);
    blank = kept-named 67 43 (omega arith) (each-total (clear 67 43) blank-clear) ∙ named-behind old old-long 67 43 (omega arith);
    mac = kept 110 10 (each-total (clear 110 10) mac-clear) ∙ stored_here 110 blank named base-fits 10 refl;
  }
