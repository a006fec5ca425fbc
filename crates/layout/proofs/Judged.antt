-- What an answer on a record says of its rows.
-- Assumes nothing.
use Prim.Native.Nat.{ℕ, ◌+◌, ◌≤◌, ◌<◌}
use mathlib.Core.Bool.{true, false, cond}
use mathlib.Core.List.{List}
use mathlib.Core.Path.{◌≡◌, ap, sym, ◌∙◌}
use mathlib.Core.Logic.{◌↔◌, ⊎_elim}
use native.Mathlib.Omega.{arith}
use lib.Dec.{eqb}
use lib.ListN.{length, get_or}
use Rattle.laws.proofs.Bools.{either}
use Rattle.answers.specs.declared.told.Answer.{Answer}
use Rattle.kinds.specs.declared.of_files.Kind.{Kind}
use Rattle.kinds.specs.declared.of_files.Own.{Own}
use Rattle.kinds.specs.declared.of_files.Role.{Role}
use Rattle.tables.specs.declared.row.Row.{Row}
use Rattle.kinds.specs.Kinds.{fixed_of}
use Rattle.tables.specs.Rows.{blank}
use Rattle.tables.specs.Tables.{rows_of}
use Rattle.tables.proofs.Tiling.{row_within, size-least}
use Rattle.answers.specs.Answers.{accepted}
use Rattle.layout.specs.Rules.{holds}
use Rattle.layout.specs.Judging.{broken_at, row_tells, judge_by, judge_of}
use Rattle.answers.proofs.Refusals.{So-far, told-stop, told-end, all_told, told-all}

-- a broken row is never told as accepted
pub broken-number : (n : ℕ) (r : Row) → (broken_at n r).number ≡ 0 → ⊥
broken-number n r =
    elim (eqb r.4 0x30303030) as (λ b. ◌≡◌ {A = ℕ} (cond b 5 4) 0 → ⊥) [ true ↦ λ e. omega arith | false ↦ λ e. omega arith ]

module _ (o : Own) (rows : List Row) (rec header : List ℕ) (n : ℕ) where
  pub row-good : (i : ℕ) → holds o rec header n (get_or rows i blank) ≡ true → (row_tells o rows rec header n i).number ≡ 0
  unfolding row_tells
  row-good i t = rw t

  pub row-bad : (i : ℕ) → holds o rec header n (get_or rows i blank) ≡ false → row_tells o rows rec header n i ≡ broken_at n (get_or rows i blank)
  unfolding row_tells
  row-bad i f = rw f

  pub judge-stop : (i : ℕ) → i < length rows → So-far (row_tells o rows rec header n) i → holds o rec header n (get_or rows i blank) ≡ false → judge_by o rows rec header n ≡ broken_at n (get_or rows i blank)
  unfolding judge_by
  judge-stop i h e f =
      told-stop (row_tells o rows rec header n) i (length rows) h e
      (λ z. broken-number n (get_or rows i blank) (ap (λ (a : Answer). a.number) (sym (row-bad i f)) ∙ z)) ∙ row-bad i f

  pub row-holds : (i : ℕ) → (row_tells o rows rec header n i).number ≡ 0 → holds o rec header n (get_or rows i blank) ≡ true
  row-holds i e =
      ⊎_elim (λ t. t)
      (λ f. absurd (broken-number n (get_or rows i blank) (ap (λ (a : Answer). a.number) (sym (row-bad i f)) ∙ e)))
      (either (holds o rec header n (get_or rows i blank)))

  -- none is reported exactly when every row holds
  abbrev pub All-hold : Type 0
  All-hold = (i : ℕ) → i < length rows → holds o rec header n (get_or rows i blank) ≡ true

  pub judge-exact : ((judge_by o rows rec header n).number ≡ 0) ↔ All-hold
  unfolding judge_by
  judge-exact = (
    λ e i h. row-holds i (all_told (row_tells o rows rec header n) (length rows) e i h),
    λ a. ap (λ (b : Answer). b.number) (told-all (row_tells o rows rec header n) (length rows) (λ i h. row-good i (a i h))),
  )

  pub judge_end : So-far (row_tells o rows rec header n) (length rows) → judge_by o rows rec header n ≡ accepted
  unfolding judge_by
  judge_end e = told-end (row_tells o rows rec header n) (length rows) e

-- the rows of a kind's record are such that the record, and its header, can be judged by them
pub rows-judged :
    (k : Kind) (role : Role) (rows : List Row) → rows ≡ rows_of k role →
    (rec header : List ℕ) → length rec ≡ (fixed_of k).size → length header ≡ (fixed_of k).size →
    ((i : ℕ) → (get_or rows i blank).1 + (get_or rows i blank).2 ≤ length rec) ×
    (((i : ℕ) → (get_or rows i blank).1 + (get_or rows i blank).2 ≤ length header) × ((55 ≤ length rec) × (55 ≤ length header)))
rows-judged k role rows laid rec header e f =
    let within = λ (i : ℕ). row_within k role i in
    let least = size-least k in
    rw laid (λ i. omega (arith, within i, e), (λ i. omega (arith, within i, f), (omega (arith, least, e), omega (arith, least, f))))

-- and tells what the record's rows tell
pub rows-tell :
    (k : Kind) (role : Role) (rows : List Row) → rows ≡ rows_of k role → (rec header : List ℕ) (n : ℕ) →
    judge_by k.own rows rec header n ≡ judge_of k role rec header n
unfolding judge_of
rows-tell k role rows laid rec header n = rw laid
