-- Each record of a file against its rows.
use Rattle.std.specs.Prelude.{ℕ, ◌+◌, cond, List, eqb}
use Rattle.answers.specs.declared.told.Answer.{Answer}
use Rattle.kinds.specs.declared.of_files.Kind.{Kind}
use Rattle.kinds.specs.declared.of_files.Role.{Role}
use Rattle.kinds.specs.declared.of_files.Role.TheVariants.{Header, Data, Trailer}
use Rattle.answers.specs.Answers.{first_told}
use Rattle.layout.specs.Judging.{judge_of}
use Rattle.records.specs.Records.{record_of, count_of}

-- the first record is the header, the last the trailer, all between are data
unfoldable pub role_of : ℕ → ℕ → Role
role_of count i = cond (eqb i 0) Header (cond (eqb (i + 1) count) Trailer Data)

-- what is told of record i
unfoldable pub judged_at : Kind → List ℕ → ℕ → Answer
judged_at k s i = judge_of k (role_of (count_of k s) i) (record_of k s i) (record_of k s 0) i

-- what is told of the records, in file order
unfoldable pub records_tell : Kind → List ℕ → Answer
records_tell k s = first_told (judged_at k s) (count_of k s)
