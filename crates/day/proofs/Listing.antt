-- What each answer about n bodies says, and when they are accepted.
-- Assumes nothing.
use Prim.Native.Nat.{ℕ}
use mathlib.Core.List.{List}
use mathlib.Core.Path.{◌≡◌, refl, sym, ◌∙◌}
use mathlib.Core.Logic.{◌↔◌, ⊎_elim}
use native.Mathlib.Nat.{le_of_eq, eq-or-lt_of_le}
use native.Mathlib.Omega.{arith}
use borrow.Author.Tests.{eqb-true, eqb-false}
use lib.Dec.{eqb}
use lib.ListN.{length}
use Rattle.laws.specs.Least.{least}
use Rattle.laws.specs.Sum.{sum}
use Rattle.laws.proofs.Bools.{either}
use Rattle.laws.proofs.Leasts.{least-is, least-before, least-none}
use Rattle.answers.specs.declared.of_day.DayAnswer.{DayAnswer}
use Rattle.answers.specs.OfDay.{day_accepted}
use Rattle.answers.proofs.Refusals.{Good, First, told, so_far, number_of}
use Rattle.answers.proofs.OfDay.{day-number}
use Rattle.keys.specs.Keys.{repeats_in, Distinct}
use Rattle.keys.proofs.Distinct.{distinct-if, repeat-none}
use Rattle.day.specs.Bodies.{body_told_at, list_told}
use Rattle.day.specs.First.{Listed, ListSays, good, lengths, repeats, refuses}
use Rattle.day.proofs.Body.{body-good, good-body, body-says}
use Rattle.day.proofs.Listed.{bodies-stop, bodies-end, list-31, list-32, list-33}

module _ (name : ℕ → List ℕ) (size : ℕ → ℕ) (n : ℕ) (bodies : List ℕ) where
  abbrev Told : Type 0
  Told = ListSays name size n bodies (list_told name size n bodies)

  -- names differ: body after body
  each-says : (all : sum size n ≡ length bodies) → least (repeats_in name) n ≡ n → Told
  unfolding body_told_at
  each-says all q = ⊎_elim none some (told (body_told_at name size bodies) n)
    where
      d : Distinct name n
      d = distinct-if name n (least-before (repeats_in name) n q)

      none : Good (body_told_at name size bodies) n → Told
      none g =
          rw (list-33 name size n bodies all n (sym q) (le_of_eq refl) ∙ bodies-end name size n bodies (so_far (body_told_at name size bodies) n g.all))
          (good (record { all = all; names = d; each = λ i h. body-good _ _ (g.all i h) }))

      some : ((i : ℕ) × First (body_told_at name size bodies) n i) → Told
      some b =
          let i = b.0 in
          let f = b.1 in
          rw (list-33 name size n bodies all n (sym q) (le_of_eq refl) ∙ bodies-stop name size n bodies i f.below (so_far (body_told_at name size bodies) i f.before) f.bad)
          (refuses i (body_told_at name size bodies i) all d f.below (λ m l. body-good _ _ (f.before m l)) (body-says _ _ f.bad))

  pub list-says : Told
  list-says =
      ⊎_elim (λ t. fits (eqb-true (sum size n) (length bodies) t))
      (λ f. let ne = eqb-false (sum size n) (length bodies) f in rw (list-31 name size n bodies ne) (lengths ne))
      (either (eqb (sum size n) (length bodies)))
    where
      fits : sum size n ≡ length bodies → Told
      fits all =
          let r = least-is (repeats_in name) n in
          ⊎_elim (each-says all)
          (λ h. rw (list-32 name size n bodies all (least (repeats_in name) n) refl h) (repeats (least (repeats_in name) n) all h (r.holds h) r.before))
          (eq-or-lt_of_le r.within)

  -- accepted exactly when they make up all bytes, names differ, and each belongs to its name; number 0 is enough
  says-listed : (a : DayAnswer) → ListSays name size n bodies a → a.number ≡ 0 → Listed name size n bodies
  says-listed a (good l) z = l
  says-listed a (lengths ne) z = absurd (omega arith)
  says-listed a (repeats i all h r before) z = absurd (omega arith)
  says-listed a (refuses i b all d h before says) z = absurd (omega arith)

  pub list-good : (list_told name size n bodies).number ≡ 0 → Listed name size n bodies
  list-good = says-listed (list_told name size n bodies) list-says

  pub good-list : Listed name size n bodies → list_told name size n bodies ≡ day_accepted
  unfolding body_told_at
  good-list l =
      list-33 name size n bodies l.all n (sym (least-none (repeats_in name) n (repeat-none name n l.names))) (le_of_eq refl) ∙
      bodies-end name size n bodies (so_far (body_told_at name size bodies) n (λ i h. number_of (good-body _ _ (l.each i h))))

  pub list-exact : (list_told name size n bodies ≡ day_accepted) ↔ Listed name size n bodies
  list-exact = (λ e. list-good (day-number e), good-list)
