-- One record against its rows.
use Rattle.std.specs.Prelude.{ℕ, cond, List, eqb, length, get_or}
use Rattle.answers.specs.declared.told.Answer.{Answer}
use Rattle.kinds.specs.declared.of_files.Kind.{Kind}
use Rattle.kinds.specs.declared.of_files.Own.{Own}
use Rattle.kinds.specs.declared.of_files.Role.{Role}
use Rattle.tables.specs.declared.row.Row.{Row}
use Rattle.answers.specs.Answers.{accepted, refused_at, first_told}
use Rattle.tables.specs.Rows.{blank}
use Rattle.tables.specs.Tables.{rows_of}
use Rattle.layout.specs.Rules.{holds}

-- what is told of a broken row of record n: refusal 5 where the row has no code, else 4
abbrev pub broken_at : ℕ → Row → Answer
broken_at n r = refused_at (cond (eqb r.4 0x30303030) 5 4) n r.0 r.4

-- what is told of row i
unfoldable pub row_tells : Own → List Row → List ℕ → List ℕ → ℕ → ℕ → Answer
row_tells o rows rec header n i = cond (holds o rec header n (get_or rows i blank)) accepted (broken_at n (get_or rows i blank))

-- what is told of record n by any rows: the first in table order that does not hold
unfoldable pub judge_by : Own → List Row → List ℕ → List ℕ → ℕ → Answer
judge_by o rows rec header n = first_told (row_tells o rows rec header n) (length rows)

-- and by the rows of its kind
unfoldable pub judge_of : Kind → Role → List ℕ → List ℕ → ℕ → Answer
judge_of k role rec header n = judge_by k.own (rows_of k role) rec header n
