-- The first refusal among answers, taken apart: the first answer, those between, the last.
-- Assumes nothing.
use Prim.Native.Nat.{ℕ, zero, suc, ◌+◌, ◌<◌}
use mathlib.Core.Bool.{true, false}
use mathlib.Core.Path.{◌≡◌, sym, ◌∙◌}
use mathlib.Core.Logic.{⊎_elim}
use native.Mathlib.Nat.{le_antisymm, not-suc-le-zero}
use native.Mathlib.Numerals.{add-one}
use native.Mathlib.Omega.{arith}
use borrow.Author.Tests.{ltb-true, ltb-false}
use lib.Dec.{ltb}
use Rattle.laws.proofs.Bools.{either}
use Rattle.answers.specs.declared.told.Answer.{Answer}
use Rattle.answers.specs.Answers.{refuses, first_told, ◌then◌}
use Rattle.answers.proofs.Refusals.{number_of, refuses-zero, refuses-other, then-first, then-second, told-stop, All-good, First, Good, told, told-all, so_far}

-- all good, or the first that is not, before what follows
good-then : (f : ℕ → Answer) (x : Answer) (n : ℕ) → All-good f n → (first_told f n then x) ≡ x
good-then f x n g = then-second (first_told f n) x (number_of (told-all f n g))

bad-then : (f : ℕ → Answer) (x : Answer) (n i : ℕ) → i < n → All-good f i → ((f i).number ≡ 0 → ⊥) → (first_told f n then x) ≡ f i
bad-then f x n i h g ne = rw (told-stop f i n h (so_far f i g) ne) (then-first (f i) x ne)

-- n + 2 answers before what follows: the first, the n between, the last
module _ (f : ℕ → Answer) (x : Answer) (n : ℕ) where
  abbrev between : ℕ → Answer
  between i = f (i + 1)

  shift : (f 0).number ≡ 0 → (m : ℕ) → All-good between m → All-good f (m + 1)
  shift z m g zero h = z
  shift z m g (suc i) h = rw (← add-one i) (g i (omega arith))

  pub told-ends : (first_told f (n + 2) then x) ≡ (f 0 then first_told between n then f (n + 1) then x)
  told-ends = ⊎_elim first more (either (refuses (f 0)))
    where
      first : refuses (f 0) ≡ true → (first_told f (n + 2) then x) ≡ (f 0 then first_told between n then f (n + 1) then x)
      first t =
          let ne = refuses-other (f 0) t in
          bad-then f x (n + 2) 0 (omega arith) (λ i h. absurd (not-suc-le-zero h)) ne ∙ sym (then-first (f 0) (first_told between n then f (n + 1) then x) ne)

      inner : (f 0).number ≡ 0 → ((i : ℕ) × First between n i) → (first_told f (n + 2) then x) ≡ (first_told between n then f (n + 1) then x)
      inner z b =
          let i = b.0 in
          bad-then f x (n + 2) (i + 1) (omega (arith, b.1.below)) (shift z i b.1.before) b.1.bad ∙
          sym (bad-then between (f (n + 1) then x) n i b.1.below b.1.before b.1.bad)

      last : (f 0).number ≡ 0 → Good between n → (first_told f (n + 2) then x) ≡ (first_told between n then f (n + 1) then x)
      last z g = ⊎_elim bad good (either (refuses (f (n + 1)))) ∙ sym (good-then between (f (n + 1) then x) n g.all)
        where
          bad : refuses (f (n + 1)) ≡ true → (first_told f (n + 2) then x) ≡ (f (n + 1) then x)
          bad t =
              let ne = refuses-other (f (n + 1)) t in
              bad-then f x (n + 2) (n + 1) (omega arith) (shift z n g.all) ne ∙ sym (then-first (f (n + 1)) x ne)

          each : refuses (f (n + 1)) ≡ false → All-good f (n + 2)
          each t i h =
              ⊎_elim (λ l. shift z n g.all i (ltb-true i (n + 1) l)) (λ l. rw (le_antisymm (omega arith) (ltb-false i (n + 1) l)) (refuses-zero (f (n + 1)) t))
              (either (ltb i (n + 1)))

          good : refuses (f (n + 1)) ≡ false → (first_told f (n + 2) then x) ≡ (f (n + 1) then x)
          good t = good-then f x (n + 2) (each t) ∙ sym (then-second (f (n + 1)) x (refuses-zero (f (n + 1)) t))

      more : refuses (f 0) ≡ false → (first_told f (n + 2) then x) ≡ (f 0 then first_told between n then f (n + 1) then x)
      more t =
          let z = refuses-zero (f 0) t in
          ⊎_elim (last z) (inner z) (told between n) ∙ sym (then-second (f 0) (first_told between n then f (n + 1) then x) z)
