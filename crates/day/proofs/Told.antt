-- What is told of any bytes, case by case, and where a body is shown.
-- Assumes nothing.
use Prim.Native.Nat.{ℕ, ◌+◌, ◌-◌, ◌<◌}
use mathlib.Core.Bool.{true, false}
use mathlib.Core.List.{List, []}
use mathlib.Core.Path.{◌≡◌, refl, sym, ◌∙◌}
use mathlib.Core.Logic.{⊎_elim}
use native.Mathlib.Omega.{arith}
use lib.ListN.{drop}
use Rattle.laws.specs.Sum.{sum}
use Rattle.laws.proofs.Bools.{either}
use Rattle.laws.proofs.Sums.{sum_same}
use Rattle.answers.specs.Lying.{Refused, From, Nowhere, is_one}
use Rattle.answers.specs.declared.of_day.OfDay.{OfDay}
use Rattle.answers.specs.OfDay.{told_of_day, day_accepted, bad_contents}
use Rattle.answers.proofs.Tellings.{day-refusal}
use Rattle.answers.proofs.OfDay.{day-number, day-is, day-not}
use Rattle.keys.specs.Stands.{key_in}
use Rattle.day.specs.Contents.{entry_at, names_at, width_in, count_in, name_in, length_in, bodies_in, contents_good}
use Rattle.day.specs.Bodies.{size_at, list_told}
use Rattle.day.specs.Reading.{read_of, body_start, lies_in, shown_of}
use Rattle.day.specs.First.{Contents}
use Rattle.day.proofs.Contained.{contents-good, name-key}
use Rattle.day.proofs.Listed.{list_same}

module _ (s : List ℕ) where
  pub read-30 : contents_good s ≡ false → read_of s ≡ bad_contents
  unfolding read_of
  read-30 f = rw f

  pub read-list : contents_good s ≡ true → read_of s ≡ list_told (name_in s) (length_in s) (count_in s) (bodies_in s)
  unfolding read_of
  read-list t = rw t

  -- a file that is accepted begins with contents
  pub read-good : (read_of s).number ≡ 0 → contents_good s ≡ true
  read-good z = ⊎_elim (λ t. t) (λ f. absurd (let e : ◌≡◌ {A = ℕ} 30 0 = sym (day-number (read-30 f)) ∙ z in omega arith)) (either (contents_good s))

  pub read-contents : (read_of s).number ≡ 0 → Contents s
  read-contents z = contents-good s (read-good z)

  -- by names as keys at a fixed distance, and a list of lengths
  pub read_by :
      (width n : ℕ) (lengths bodies : List ℕ) → width ≡ width_in s → n ≡ count_in s → ((i : ℕ) → i < n → size_at lengths i ≡ length_in s i) →
      bodies ≡ drop (entry_at width n) s → contents_good s ≡ true → list_told (key_in [] (names_at width) s) (size_at lengths) n bodies ≡ read_of s
  unfolding bodies_in
  read_by width n lengths bodies w e l b t =
      list_same (key_in [] (names_at width) s) (name_in s) (size_at lengths) (length_in s) n bodies (λ i h. rw w (name-key s i)) l ∙
      rw (b, w, e) (sym (read-list t))

  -- a body begins behind the contents and the lengths before it
  pub start-by :
      (width n m end total : ℕ) (size : ℕ → ℕ) → width ≡ width_in s → n ≡ count_in s → end ≡ entry_at width n → total ≡ sum size m →
      ((i : ℕ) → i < m → size i ≡ length_in s i) → end + total ≡ body_start s m
  unfolding body_start
  start-by width n m end total size w e b t l = rw (b, t, w, e, sum_same size (length_in s) m l)

  module _ (k : ℕ) where
    pub shown-refused : (r : OfDay) → told_of_day r ≡ read_of s → record { answer = told_of_day r; lies = Refused } ≡ shown_of s k
    unfolding shown_of
    shown-refused r e = rw (← e, day-is (told_of_day r) (day-refusal r))

    module _ (e : day_accepted ≡ read_of s) where
      pub shown-nowhere : is_one k (count_in s) ≡ false → record { answer = day_accepted; lies = Nowhere } ≡ shown_of s k
      unfolding shown_of lies_in
      shown-nowhere f = rw (← e, day-not day_accepted refl, f)

      pub shown-from :
          (start size : ℕ) → is_one k (count_in s) ≡ true → start ≡ body_start s (k - 1) → size ≡ length_in s (k - 1) →
          record { answer = day_accepted; lies = From start size } ≡ shown_of s k
      unfolding shown_of lies_in
      shown-from start size one b l = rw (← e, day-not day_accepted refl, one, b, l)
