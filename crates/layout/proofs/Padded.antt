-- Blank rows behind a record's rows change nothing that judging tells, so a table may be laid out over as many places as the longest has.
-- No code lays a table out any more. Assumes nothing.
use Prim.Native.Nat.{ℕ, ◌+◌, ◌≤◌}
use mathlib.Core.Bool.{cond}
use mathlib.Core.List.{List}
use mathlib.Core.Path.{◌≡◌, refl, ap, sym, ◌∙◌}
use mathlib.Core.Logic.{⊎_elim}
use native.Mathlib.Nat.{eq-or-lt_of_le}
use native.Mathlib.Omega.{arith}
use borrow.Author.Tests.{lt-ltb, le-ltb}
use lib.ListN.{length, get_or, get_or-eq_default}
use Rattle.laws.specs.Least.{least}
use Rattle.laws.specs.Part.{part}
use Rattle.laws.proofs.Leasts.{least-is}
use Rattle.text.specs.Characters.{front, each}
use Rattle.answers.specs.declared.told.Answer.{Answer}
use Rattle.kinds.specs.declared.of_files.Kind.{Kind}
use Rattle.kinds.specs.declared.of_files.Own.{Own}
use Rattle.kinds.specs.declared.of_files.Role.{Role}
use Rattle.tables.specs.declared.row.Row.{Row}
use Rattle.kinds.specs.Kinds.{fixed_of}
use Rattle.tables.specs.Rows.{blank}
use Rattle.tables.specs.Tables.{rows_of}
use Rattle.rows.specs.Laid.{most, laid_out}
use Rattle.tables.proofs.Tiling.{size-least}
use Rattle.rows.proofs.Laying.{first, first-laid, rows_fit, laid-inside}
use Rattle.answers.specs.Answers.{accepted, refuses, refuses_at, told_at, first_told}
use Rattle.layout.specs.Rules.{meets, holds}
use Rattle.layout.specs.Judging.{broken_at, row_tells, judge_by, judge_of}

-- what is told of the first row that does not hold: blank where there is none, and a blank row holds
abbrev tells : Own → List ℕ → List ℕ → ℕ → Row → Answer
tells o rec header n r = cond (holds o rec header n r) accepted (broken_at n r)

module _ (o : Own) (rec header : List ℕ) (n : ℕ) where
  blank-tells : tells o rec header n blank ≡ accepted
  unfolding holds meets part each front least
  blank-tells = refl

  judge-first : (rows : List Row) → judge_by o rows rec header n ≡ tells o rec header n (first (λ r. refuses (tells o rec header n r)) rows)
  unfolding judge_by first_told told_at refuses_at row_tells
  judge-first rows =
      let i = least (λ i. refuses (tells o rec header n (get_or rows i blank))) (length rows) in
      ⊎_elim
      (λ e. rw (le-ltb i (length rows) (omega arith), get_or-eq_default rows blank {n = i} (omega arith)) (sym blank-tells))
      (λ h. rw (lt-ltb i (length rows) h))
      (eq-or-lt_of_le (least-is (λ i. refuses (tells o rec header n (get_or rows i blank))) (length rows)).within)

  -- the rows laid out tell the same
  pub judge-laid : (rows : List Row) → length rows ≤ most → judge_by o (laid_out rows) rec header n ≡ judge_by o rows rec header n
  judge-laid rows h =
      judge-first (laid_out rows) ∙
      (ap (tells o rec header n) (first-laid (λ r. refuses (tells o rec header n r)) rows h) ∙ sym (judge-first rows))

-- a table that lays out a record's rows is one by which the record, and its header, can be judged
pub laid-judged :
    (k : Kind) (role : Role) (rows : List Row) → rows ≡ laid_out (rows_of k role) →
    (rec header : List ℕ) → length rec ≡ (fixed_of k).size → length header ≡ (fixed_of k).size →
    ((i : ℕ) → (get_or rows i blank).1 + (get_or rows i blank).2 ≤ length rec) ×
    (((i : ℕ) → (get_or rows i blank).1 + (get_or rows i blank).2 ≤ length header) × ((55 ≤ length rec) × (55 ≤ length header)))
laid-judged k role rows laid rec header e f =
    let within = laid-inside k role rows laid in
    let least = size-least k in
    (λ i. omega (arith, within i, e), (λ i. omega (arith, within i, f), (omega (arith, least, e), omega (arith, least, f))))

-- and tells what they tell
pub laid-tells :
    (k : Kind) (role : Role) (rows : List Row) → rows ≡ laid_out (rows_of k role) → (rec header : List ℕ) (n : ℕ) →
    judge_by k.own rows rec header n ≡ judge_of k role rec header n
unfolding judge_of
laid-tells k role rows laid rec header n = rw laid (judge-laid k.own rec header n (rows_of k role) (rows_fit k role))
