-- What is told of an enrolment and what it marks, case by case; and what the marks say in the end.
-- Assumes nothing.
use Prim.Native.Nat.{ℕ, zero, suc, ◌+◌, ◌≤◌, ◌<◌}
use mathlib.Core.Bool.{Bool, true, false, cond, not}
use mathlib.Core.List.{List}
use mathlib.Core.Logic.{⊎_elim}
use mathlib.Core.Path.{◌≡◌, refl, sym, ◌∙◌, ap}
use native.Mathlib.Nat.{le_antisymm, eq-or-lt_of_le}
use native.Mathlib.Numerals.{add-one}
use native.Mathlib.Omega.{arith}
use borrow.Author.Tests.{lt-ltb, le-ltb, ltb-true, ltb-false, eq-eqb, ne_eqb, not-true}
use lib.Dec.{ltb}
use lib.ListN.{length, get_or, set, take, replicate, length-set, length-replicate, get_or-replicate}
use lib.Seq.{get_or-set_same, get_or-set_other, get_or-take, length-take-le}
use Rattle.laws.specs.Least.{least, none}
use Rattle.laws.specs.Part.{same}
use Rattle.laws.proofs.Bools.{and_left, and_right, and_both, either, clash}
use Rattle.laws.proofs.Leasts.{least-is, least-same, least_start, least-stop, least-none, none_more, none_last}
use Rattle.laws.proofs.Parts.{same-equal, same_self}
use Rattle.laws.proofs.Positions.{least_position}
use Rattle.std.specs.Prelude.{Option, Some, None}
use Rattle.std.specs.List.{position_or_len}
use Rattle.answers.specs.declared.told.Answer.{Answer}
use Rattle.answers.specs.Answers.{accepted, refused_at, refuses, refuses_at, told_at, first_told}
use Rattle.answers.proofs.Refusals.{So-far, number_of, refuses-is, refuses-not, all_told, told_same}
use Rattle.keys.specs.Keys.{has_key_in, place_in}
use Rattle.keys.specs.Stands.{key_in}
use Rattle.kinds.specs.Kinds.{limit, EB13}
use Rattle.records.specs.Records.{data_of}
use Rattle.evidence.specs.Blocks.{records_in}
use Rattle.evidence.specs.Reading.{key_of, keys_told}
use Rattle.evidence.proofs.Within.{listed}
use Rattle.evidence.proofs.Looked.{keys-apart}
use Rattle.consent.specs.Comparing.{asked_by, enrolment, is_new, belongs, lacks_told, foreign_told}
use Rattle.consent.specs.Marks.{found_for, marked_at, marked_to, good_to, unmarked_told, key_spacing, Listed}

-- the place that is looked up is that of the evidence
pub found-by :
    (e s places links : List ℕ) (m i : ℕ) → Listed s places m links →
    place_in (key_in places key_spacing s) m (asked_by (enrolment e i)) ≡ found_for e s i
unfolding found_for place_in has_key_in
found-by e s places links m i t =
    rw (← t.all)
    (least-same (has_key_in (key_in places key_spacing s) (asked_by (enrolment e i))) (has_key_in (key_of s) (asked_by (enrolment e i))) m
    (λ k h. ap (λ (l : List ℕ). same l (asked_by (enrolment e i))) (listed s places m t.holds k h)))

module _ (e s : List ℕ) (i : ℕ) where
  -- an enrolment that is not new asks for nothing
  pub old-told : is_new e i ≡ false → lacks_told e s i ≡ accepted
  unfolding lacks_told
  old-told f = rw f

  pub old-marked : is_new e i ≡ false → (l : List Bool) → marked_at e s i l ≡ l
  unfolding marked_at
  old-marked f l = rw f

  -- the evidence of a new one is among all, or there is none
  pub found-within : found_for e s i ≤ records_in s
  unfolding found_for place_in
  found-within = (least-is (has_key_in (key_of s) (asked_by (enrolment e i))) (records_in s)).within

  module _ (new : is_new e i ≡ true) where
    asks : least (belongs e s i) (records_in s) ≡ found_for e s i
    unfolding found_for place_in has_key_in belongs
    asks = least-same (belongs e s i) (has_key_in (key_of s) (asked_by (enrolment e i))) (records_in s) (λ k h. rw new)

    pub found-told : found_for e s i < records_in s → lacks_told e s i ≡ accepted
    unfolding lacks_told none
    found-told h = rw (new, asks, ne_eqb (found_for e s i) (records_in s) (λ q. absurd (omega (arith, q, h))))

    pub found-marked : found_for e s i < records_in s → (l : List Bool) → marked_at e s i l ≡ set l (found_for e s i) true
    unfolding marked_at
    found-marked h l = rw (new, lt-ltb (found_for e s i) (records_in s) h)

    pub lacks-told : records_in s ≤ found_for e s i → lacks_told e s i ≡ refused_at 20 (i + 1) 6 0x30303030
    unfolding lacks_told none
    lacks-told h = rw (new, asks, eq-eqb (found_for e s i) (records_in s) (le_antisymm found-within h))

    pub lacks-marked : records_in s ≤ found_for e s i → (l : List Bool) → marked_at e s i l ≡ l
    unfolding marked_at
    lacks-marked h l = rw (new, le-ltb (found_for e s i) (records_in s) h)

  -- one that lacks its evidence marks nothing
  pub refused-marked : ((lacks_told e s i).number ≡ 0 → ⊥) → (l : List Bool) → marked_at e s i l ≡ l
  refused-marked ne l =
      ⊎_elim
      (λ n. ⊎_elim (λ t. absurd (ne (number_of (found-told n (ltb-true (found_for e s i) (records_in s) t))))) (λ f. lacks-marked n (ltb-false (found_for e s i) (records_in s) f) l) (either (ltb (found_for e s i) (records_in s))))
      (λ o. old-marked o l)
      (either (is_new e i))

  pub marked-length : (l : List Bool) → length (marked_at e s i l) ≡ length l
  marked-length l =
      ⊎_elim
      (λ n. ⊎_elim (λ t. ap length (found-marked n (ltb-true (found_for e s i) (records_in s) t) l) ∙ length-set l (found_for e s i) true) (λ f. ap length (lacks-marked n (ltb-false (found_for e s i) (records_in s) f) l)) (either (ltb (found_for e s i) (records_in s))))
      (λ o. ap length (old-marked o l))
      (either (is_new e i))

  pub marked_more : (l : List Bool) → marked_to e s (i + 1) l ≡ marked_at e s i (marked_to e s i l)
  unfolding marked_to
  marked_more l = rw (add-one i)

module _ (e s : List ℕ) where
  pub marked_start : (l : List Bool) → marked_to e s 0 l ≡ l
  unfolding marked_to
  marked_start l = refl

  to-length : (i : ℕ) (l : List Bool) → length (marked_to e s i l) ≡ length l
  unfolding marked_to
  to-length zero l = refl
  to-length (suc i) l = marked-length e s i (marked_to e s i l) ∙ to-length i l

  -- how far the loop went
  pub good-stop : (i : ℕ) → i < data_of EB13 e → So-far (lacks_told e s) i → ((lacks_told e s i).number ≡ 0 → ⊥) → good_to e s ≡ i
  unfolding good_to refuses_at
  good-stop i h f ne = least-stop (refuses_at (lacks_told e s)) i (data_of EB13 e) h f (refuses-is (lacks_told e s i) ne)

  pub good-end : So-far (lacks_told e s) (data_of EB13 e) → good_to e s ≡ data_of EB13 e
  unfolding good_to
  good-end f = f

  pub good-all : (first_told (lacks_told e s) (data_of EB13 e)).number ≡ 0 → good_to e s ≡ data_of EB13 e
  unfolding good_to refuses_at
  good-all z =
      least-none (refuses_at (lacks_told e s)) (data_of EB13 e) (λ i h. refuses-not (lacks_told e s i) (all_told (lacks_told e s) (data_of EB13 e) z i h))

-- keys differ, so that what is found is the only one
module _ (e s : List ℕ) (keys : (keys_told s).number ≡ 0) (i j : ℕ) (h : j < records_in s) where
  only : same (key_of s j) (asked_by (enrolment e i)) ≡ true → found_for e s i ≡ j
  unfolding found_for place_in has_key_in
  only t = ⊎_elim (λ q. q) early (eq-or-lt_of_le within)
    where
      first : ℕ
      first = least (has_key_in (key_of s) (asked_by (enrolment e i))) (records_in s)

      within : first ≤ j
      within =
          ⊎_elim
          (λ b. absurd (clash t ((least-is (has_key_in (key_of s) (asked_by (enrolment e i))) (records_in s)).before j (ltb-true j first b))))
          (λ b. ltb-false j first b)
          (either (ltb j first))

      early : first < j → first ≡ j
      early l =
          let here = same-equal (key_of s j) (asked_by (enrolment e i)) t in
          let there = same-equal (key_of s first) (asked_by (enrolment e i)) ((least-is (has_key_in (key_of s) (asked_by (enrolment e i))) (records_in s)).holds (omega (arith, l, h))) in
          absurd (keys-apart s keys first j l h (rw (here, there) (same_self (asked_by (enrolment e i)))))

  -- the mark of an enrolment that belongs, and of one that does not
  marked-here : belongs e s i j ≡ true → (l : List Bool) → j < length l → get_or (marked_at e s i l) j false ≡ true
  unfolding belongs
  marked-here t l g =
      let o = only (and_right (is_new e i) (same (key_of s j) (asked_by (enrolment e i))) t) in
      rw (found-marked e s i (and_left (is_new e i) (same (key_of s j) (asked_by (enrolment e i))) t) (omega (arith, o, h)) l, o)
      (get_or-set_same l j true false g)

  other : belongs e s i j ≡ false → is_new e i ≡ true → found_for e s i < records_in s → j ≡ found_for e s i → ⊥
  unfolding belongs found_for place_in has_key_in
  other f n g q =
      let there : same (key_of s j) (asked_by (enrolment e i)) ≡ true = rw q ((least-is (has_key_in (key_of s) (asked_by (enrolment e i))) (records_in s)).holds g) in
      clash (and_both (is_new e i) (same (key_of s j) (asked_by (enrolment e i))) n there) f

  marked-not : belongs e s i j ≡ false → (l : List Bool) → get_or (marked_at e s i l) j false ≡ get_or l j false
  marked-not f l = ⊎_elim new (λ o. ap (λ (x : List Bool). get_or x j false) (old-marked e s i o l)) (either (is_new e i))
    where
      new : is_new e i ≡ true → get_or (marked_at e s i l) j false ≡ get_or l j false
      new n =
          ⊎_elim
          (λ t.
          let g = ltb-true (found_for e s i) (records_in s) t in
          ap (λ (x : List Bool). get_or x j false) (found-marked e s i n g l) ∙ get_or-set_other l (found_for e s i) j true false (other f n g))
          (λ t. ap (λ (x : List Bool). get_or x j false) (lacks-marked e s i n (ltb-false (found_for e s i) (records_in s) t) l))
          (either (ltb (found_for e s i) (records_in s)))

-- the marks of the first i enrolments, in a list with none
module _ (e s : List ℕ) (keys : (keys_told s).number ≡ 0) (l : List Bool) (j : ℕ) (h : j < records_in s) (g : j < length l) (z : get_or l j false ≡ false) where
  one_more :
      (i : ℕ) → not (get_or (marked_to e s i l) j false) ≡ none (λ k. belongs e s k j) i →
      not (get_or (marked_to e s (i + 1) l) j false) ≡ none (λ k. belongs e s k j) (i + 1)
  one_more i a =
      ⊎_elim
      (λ t.
      rw (marked_more e s i l, marked-here e s keys i j h t (marked_to e s i l) (rw (to-length e s i l) g))
      (sym (none_last (λ k. belongs e s k j) i t)))
      (λ f.
      rw (marked_more e s i l, marked-not e s keys i j h f (marked_to e s i l))
      (a ∙ sym (none_more (λ k. belongs e s k j) i f)))
      (either (belongs e s i j))

  no-mark : not (get_or (marked_to e s 0 l) j false) ≡ none (λ k. belongs e s k j) 0
  unfolding none
  no-mark = rw (marked_start e s l, z, least_start (λ k. belongs e s k j))

  pub marked-says : (i : ℕ) → not (get_or (marked_to e s i l) j false) ≡ none (λ k. belongs e s k j) i
  marked-says zero = no-mark
  marked-says (suc i) = rw (← add-one i) (one_more i (marked-says i))

  pub marked-told : unmarked_told (marked_to e s (data_of EB13 e) l) j ≡ foreign_told e s j
  unfolding unmarked_told foreign_told
  marked-told = not-marked (get_or (marked_to e s (data_of EB13 e) l) j false) (marked-says (data_of EB13 e))
    where
      foreign : Answer
      foreign = refused_at 21 (j + 1) 6 0x30303030

      not-marked : (b : Bool) → not b ≡ none (λ k. belongs e s k j) (data_of EB13 e) → cond b accepted foreign ≡ cond (none (λ k. belongs e s k j) (data_of EB13 e)) foreign accepted
      not-marked true q = rw (← q) refl
      not-marked false q = rw (← q) refl

-- so the marks of all enrolments tell of all evidence
module _ (e s : List ℕ) (keys : (keys_told s).number ≡ 0) (m : ℕ) (few : m ≤ limit) (all : m ≡ records_in s) where
  abbrev marks : List Bool
  marks = marked_to e s (data_of EB13 e) (replicate limit false)

  in-marks : m ≤ length marks
  in-marks = rw (to-length e s (data_of EB13 e) (replicate limit false), length-replicate limit false) few

  each : (j : ℕ) → j < m → unmarked_told (take m marks) j ≡ foreign_told e s j
  unfolding unmarked_told
  each j h =
      rw (get_or-take m marks j false h)
      (marked-told e s keys (replicate limit false) j (rw (← all) h) (rw (length-replicate limit false) (omega arith)) (get_or-replicate limit j false false (omega arith)))

  pub marks-all : first_told (unmarked_told (take m marks)) (length (take m marks)) ≡ first_told (foreign_told e s) (records_in s)
  marks-all = rw (length-take-le m marks in-marks, ← all) (told_same (unmarked_told (take m marks)) (foreign_told e s) m each)

-- 21 at the first that has no mark
module _ (marks : List Bool) where
  abbrev place : ℕ
  place = position_or_len not marks

  abbrev pub told-at : Option ℕ → Answer
  told-at (Some j) = refused_at 21 (j + 1) 6 0x30303030
  told-at None = accepted

  unmarked : (j : ℕ) → refuses_at (unmarked_told marks) j ≡ not (get_or marks j false)
  unfolding refuses_at refuses unmarked_told
  unmarked j = elim (get_or marks j false) as (λ b. refuses (cond b accepted (refused_at 21 (j + 1) 6 0x30303030)) ≡ not b) [ true ↦ refl | false ↦ refl ]

  first : least (refuses_at (unmarked_told marks)) (length marks) ≡ place
  first = least-same _ _ (length marks) (λ j h. unmarked j) ∙ least_position not marks false

  pub marks-told : (r : Option ℕ) → r ≡ cond (ltb place (length marks)) (Some place) None → told-at r ≡ first_told (unmarked_told marks) (length marks)
  unfolding first_told told_at unmarked_told
  marks-told r e = rw first (ap told-at e ∙ ⊎_elim found (λ f. rw f) (either (ltb place (length marks))))
    where
      found :
          ltb place (length marks) ≡ true →
          told-at (cond (ltb place (length marks)) (Some place) None) ≡ told_at (unmarked_told marks) (length marks) place
      found t =
          let h : least (refuses_at (unmarked_told marks)) (length marks) < length marks = rw first (ltb-true place (length marks) t) in
          let bare : not (get_or marks place false) ≡ true = rw first at (sym (unmarked _) ∙ (least-is (refuses_at (unmarked_told marks)) (length marks)).holds h) in
          rw (t, not-true (get_or marks place false) bare)
