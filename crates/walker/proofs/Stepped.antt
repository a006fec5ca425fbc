-- A walker stepped from its opening stands at the lesser of its steps and n, and hands out what the walk hands out at that many.
-- Assumes nothing.
use Prim.Native.Nat.{ℕ, zero, suc, ◌+◌, ◌≤◌, min}
use mathlib.Core.List.{List}
use mathlib.Core.Path.{◌≡◌, refl, sym, ap, ◌∙◌}
use mathlib.Core.Logic.{⊎_elim}
use native.Mathlib.Nat.{le_refl, min-eq_left, min-eq_right}
use borrow.Author.Tests.{ltb-true, ltb-false}
use lib.Dec.{ltb}
use mathlib.Core.Bool.{true, false}
use native.Mathlib.Numerals.{add-one}
use native.Mathlib.Omega.{arith}
use denote.Ref.{Bor}
use Rattle.laws.proofs.Bools.{either}
use Rattle.kinds.specs.declared.of_files.Kind.{Kind}
use Rattle.std.specs.Prelude.{Some}
use Rattle.kinds.specs.Kinds.{kind_of}
use Rattle.answers.specs.Answers.{refuses}
use Rattle.answers.proofs.Refusals.{refuses-zero, refuses-other}
use Rattle.records.specs.Records.{data_of}
use Rattle.reader.specs.Reading.{read_of}
use Rattle.reader.proofs.Accepted.{read_known}
use Rattle.walker.specs.Steps.{Walked}
use Rattle.walker.specs.declared.walker.Walker.{Walker}
use Rattle.walker.specs.Walks.{step_of, walked, hand_of, walk_of, place_after}
use Rattle.walker.specs.Walkers.{open_on, handed, handed_by, moved_on, stepped}
use Rattle.walker.proofs.Steps.{step-record, step_end, hand-refused}
use Rattle.walker.proofs.Records.{walk_refused, hand-step, handed-is}

-- no step, and one more
pub stepped-none : (w : Walker) → stepped w 0 ≡ w
unfolding stepped
stepped-none w = refl

pub stepped-more : (w : Walker) (i : ℕ) → stepped w (i + 1) ≡ moved_on (stepped w i)
unfolding stepped
stepped-more w i = rw (add-one i)

-- the same walker at another place
at_place : Walker → ℕ → Walker
at_place w p = record { file = w.file; place = p; kind = w.kind }

-- a step changes the place only
only-place : (w : Walker) (i : ℕ) → stepped w i ≡ at_place w (stepped w i).place
unfolding stepped at_place
only-place w zero = refl
only-place w (suc i) = ap moved_on (only-place w i) ∙ ap (at_place w) (ap (λ (v : Walker). (moved_on v).place) (sym (only-place w i)))

module _ (kind : ℕ) (f : Bor (List ℕ)) (w : Walker) (o : open_on kind f w) where
  -- the walker after i steps from its opening
  abbrev pub after : ℕ → Walker
  after i = stepped w i

  hands : (i : ℕ) → handed_by (after i) ≡ hand_of f.now (after i).place kind (read_of kind f.now)
  unfolding at_place walk_of
  hands i =
      ap handed_by (only-place w i) ∙
      (ap (λ (g : Bor (List ℕ)). handed w.kind g.now (after i).place) o.file ∙ handed-is kind f.now (after i).place w.kind o.told o.named)

  module _ (k : Kind) (named : kind_of kind ≡ Some k) (good : (read_of kind f.now).number ≡ 0) where
    abbrev n : ℕ
    n = data_of k f.now

    hands-step : (i : ℕ) → handed_by (after i) ≡ walked (read_of kind f.now) (step_of k f.now (after i).place)
    hands-step i = hands i ∙ hand-step kind k named f.now (after i).place (read_of kind f.now) good

    moves : (i : ℕ) → (after (suc i)).place ≡ place_after (step_of k f.now (after i).place) (after i).place
    unfolding stepped
    moves i = ap (λ (v : Walked). place_after v.step (after i).place) (hands-step i)

    place-below : (i : ℕ) → i ≤ n → (after i).place ≡ i
    unfolding stepped
    place-below zero h = o.place
    place-below (suc i) h = moves i ∙ rw (place-below i (omega arith), step-record k f.now i (omega arith)) (add-one i)

    place-past : (i : ℕ) → n ≤ i → (after i).place ≡ n
    unfolding stepped
    place-past zero h = omega (arith, o.place)
    place-past (suc i) h = ⊎_elim more (last (place-past i)) (either (ltb i n))
      where
        more : ltb i n ≡ true → (after (suc i)).place ≡ n
        more t = place-below (suc i) (ltb-true i n t) ∙ omega (arith, ltb-true i n t)

        last : (n ≤ i → (after i).place ≡ n) → ltb i n ≡ false → (after (suc i)).place ≡ n
        last before g = moves i ∙ rw (before (ltb-false i n g), step_end k f.now n (le_refl n))

    -- *Places*: the lesser of the steps taken and n
    pub place-min : (i : ℕ) → (after i).place ≡ min i n
    place-min i = ⊎_elim below past (either (ltb i n))
      where
        below : ltb i n ≡ true → (after i).place ≡ min i n
        below t = let h : i ≤ n = omega (arith, ltb-true i n t) in place-below i h ∙ sym (min-eq_left h)

        past : ltb i n ≡ false → (after i).place ≡ min i n
        past g = place-past i (ltb-false i n g) ∙ sym (min-eq_right (ltb-false i n g))

    good-hands : (i : ℕ) → handed_by (after i) ≡ walk_of kind f.now i
    unfolding walk_of
    good-hands i = hands-step i ∙ (ap (walked (read_of kind f.now)) (⊎_elim below past (either (ltb i n))) ∙ sym (hand-step kind k named f.now i (read_of kind f.now) good))
      where
        below : ltb i n ≡ true → step_of k f.now (after i).place ≡ step_of k f.now i
        below t = ap (step_of k f.now) (place-below i (omega (arith, ltb-true i n t)))

        past : ltb i n ≡ false → step_of k f.now (after i).place ≡ step_of k f.now i
        past g = rw (place-past i (ltb-false i n g), step_end k f.now n (le_refl n), step_end k f.now i (ltb-false i n g))

  -- *Steps*: after i steps a walker hands out what the walk hands out at place i
  pub stepped-hands : (i : ℕ) → handed_by (after i) ≡ walk_of kind f.now i
  stepped-hands i = ⊎_elim refused known (either (refuses (read_of kind f.now)))
    where
      refused : refuses (read_of kind f.now) ≡ true → handed_by (after i) ≡ walk_of kind f.now i
      refused t =
          let ne = refuses-other (read_of kind f.now) t in
          hands i ∙ (hand-refused f.now (after i).place kind (read_of kind f.now) ne ∙ sym (walk_refused kind f.now i ne))

      known : refuses (read_of kind f.now) ≡ false → handed_by (after i) ≡ walk_of kind f.now i
      known g =
          let z = refuses-zero (read_of kind f.now) g in
          let is = read_known kind f.now z in
          good-hands is.k is.named z i
