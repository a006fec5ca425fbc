-- What no refusal says.
-- Assumes nothing.
use Prim.Native.Nat.{ℕ, ◌≤◌, ◌<◌}
use mathlib.Core.Bool.{Bool, true, false, cond, not, ◌&&◌}
use mathlib.Core.List.{List}
use mathlib.Core.Logic.{⊎_elim}
use mathlib.Core.Path.{◌≡◌, sym, ◌∙◌}
use native.Mathlib.Omega.{arith}
use borrow.Author.Tests.{eqb-true, not-false}
use lib.Dec.{eqb}
use lib.ListN.{length, get_or}
use Rattle.std.specs.List.{list_all}
use Rattle.laws.proofs.Bools.{either, clash}
use Rattle.laws.proofs.Leasts.{none_each, none-if}
use Rattle.laws.proofs.Positions.{none_all}
use Rattle.answers.specs.Answers.{accepted, refused, first_told}
use Rattle.answers.proofs.Refusals.{number_of, tested, told, then-second, then-zero, all_told, told-all}
use Rattle.kinds.specs.Kinds.{EB11, limit}
use Rattle.records.specs.Records.{data_of}
use Rattle.reader.specs.Reading.{read_as}
use Rattle.reader.specs.Meets.{Meets}
use Rattle.reader.proofs.Exact.{accepted-meets}
use Rattle.changes.specs.Answers.{is_answer, answer_told, answers_told}
use Rattle.changes.specs.Deciding.{lonely_told, split_told, answered_told, decided}

-- there are as many answers as records
pub answers-many : (answers : List ℕ) (n : ℕ) → (answers_told answers n).number ≡ 0 → length answers ≡ n
unfolding answers_told
answers-many answers n z =
    ⊎_elim (λ t. eqb-true (length answers) n t) (λ f. let x : ◌≡◌ {A = ℕ} 51 0 = rw f at z in absurd (omega arith)) (either (eqb (length answers) n))

-- each answer for itself
pub each-told : (answers : List ℕ) (i : ℕ) → (answer_told answers i).number ≡ 0 → is_answer (get_or answers i 0) ≡ true
unfolding answer_told
each-told answers i z = tested (is_answer (get_or answers i 0)) (refused 51) (λ o. omega arith) z

pub told-each : (answers : List ℕ) (i : ℕ) → is_answer (get_or answers i 0) ≡ true → (answer_told answers i).number ≡ 0
unfolding answer_told
told-each answers i t = rw t

-- of each, all that is told is 51
pub first-51 : (answers : List ℕ) (n : ℕ) → ((first_told (answer_told answers) n).number ≡ 0 → ⊥) → first_told (answer_told answers) n ≡ refused 51
unfolding answer_told
first-51 answers n ne =
    ⊎_elim (λ g. absurd (ne (number_of g.told))) (λ x. x.1.told ∙ ⊎_elim (λ t. absurd (x.1.bad (rw t))) (λ f. rw f) (either (is_answer (get_or answers x.0 0)))) (told (answer_told answers) n)

-- so it is told exactly where not all are answers
pub answers_all : (answers : List ℕ) (n : ℕ) → cond (eqb (length answers) n && list_all is_answer answers) accepted (refused 51) ≡ answers_told answers n
unfolding answers_told
answers_all answers n = ⊎_elim (λ t. rw t (many (eqb-true (length answers) n t))) (λ f. rw f) (either (eqb (length answers) n))
  where
    all : Bool
    all = list_all is_answer answers

    each : all ≡ true → (i : ℕ) → i < length answers → is_answer (get_or answers i 0) ≡ true
    each t i h = not-false _ (none_each (λ k. not (is_answer (get_or answers k 0))) (length answers) (none_all is_answer answers 0 ∙ t) i h)

    every : ((i : ℕ) → i < length answers → is_answer (get_or answers i 0) ≡ true) → all ≡ true
    every e = sym (none_all is_answer answers 0) ∙ none-if (λ k. not (is_answer (get_or answers k 0))) (length answers) (λ i h. rw (e i h))

    good : all ≡ true → cond all accepted (refused 51) ≡ first_told (answer_told answers) (length answers)
    good t = rw t (sym (told-all (answer_told answers) (length answers) (λ i h. told-each answers i (each t i h))))

    bad : all ≡ false → cond all accepted (refused 51) ≡ first_told (answer_told answers) (length answers)
    bad f = rw f (sym (first-51 answers (length answers) (λ z. clash (every (λ i h. each-told answers i (all_told (answer_told answers) (length answers) z i h))) f)))

    many : length answers ≡ n → cond all accepted (refused 51) ≡ first_told (answer_told answers) n
    many e = rw (← e) (⊎_elim good bad (either all))

-- no refusal among the stages
pub record Decided (s answers : List ℕ) : Type 0 where
  pub meets : Meets EB11 s
  pub changes : (first_told (lonely_told s) (data_of EB11 s)).number ≡ 0
  pub answered : (answers_told answers (data_of EB11 s)).number ≡ 0
  pub whole : (first_told (split_told s answers) (data_of EB11 s)).number ≡ 0

module _ (s answers : List ℕ) where
  pub decided-stages : (decided s answers).number ≡ 0 → Decided s answers
  unfolding decided answered_told
  decided-stages z =
      let a = then-zero (read_as EB11 s) (answered_told s answers) z in
      let b = then-zero (first_told (lonely_told s) (data_of EB11 s)) _ a.1 in
      let c = then-zero (answers_told answers (data_of EB11 s)) _ b.1 in
      record { meets = accepted-meets EB11 s a.0; changes = b.0; answered = c.0; whole = c.1 }

  pub decided-many : (decided s answers).number ≡ 0 → length answers ≡ data_of EB11 s
  decided-many z = answers-many answers (data_of EB11 s) (decided-stages z).answered

  pub decided-few : (decided s answers).number ≡ 0 → length answers ≤ limit
  decided-few z = omega (arith, decided-many z, (decided-stages z).meets.lengths.most)

  -- number 0 is accepted
  pub decided-zero : (decided s answers).number ≡ 0 → decided s answers ≡ accepted
  unfolding decided answered_told
  decided-zero z =
      let a = then-zero (read_as EB11 s) (answered_told s answers) z in
      let b = then-zero (first_told (lonely_told s) (data_of EB11 s)) _ a.1 in
      let c = then-zero (answers_told answers (data_of EB11 s)) _ b.1 in
      then-second _ _ a.0 ∙ (then-second _ _ b.0 ∙ (then-second _ _ c.0 ∙ told-all (split_told s answers) (data_of EB11 s) (all_told (split_told s answers) (data_of EB11 s) c.1)))
