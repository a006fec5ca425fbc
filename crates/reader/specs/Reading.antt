-- Reading a file: 1, 2, 3; then the records in file order and their items in item order, 4 and 5 as met; then 6 by item; then 7.
use Rattle.std.specs.Prelude.{ℕ, ◌+◌, ◌%◌, Bool, cond, ◌&&◌, List, leb, eqb, length, Option, Some, None}
use Rattle.answers.specs.declared.told.Answer.{Answer}
use Rattle.kinds.specs.declared.of_files.Kind.{Kind}
use Rattle.answers.specs.Answers.{accepted, refused, ◌then◌}
use Rattle.kinds.specs.Kinds.{fixed_of, kind_of, limit}
use Rattle.records.specs.Records.{count_in}
use Rattle.reader.specs.Judged.{records_tell}
use Rattle.reader.specs.Totals.{totals_tell}
use Rattle.reader.specs.Keys.{keys_tell}

-- so many bytes are a whole number of records, at least two
unfoldable pub is_whole : Kind → ℕ → Bool
is_whole k n = eqb (n % (fixed_of k).size) 0 && leb 2 (count_in k n)

-- 2: not whole; 3: more data records than the limit
unfoldable pub length_tells : Kind → ℕ → Answer
length_tells k n = cond (is_whole k n) (cond (leb (count_in k n) (limit + 2)) accepted (refused 3)) (refused 2)

-- the file as one of a kind
unfoldable pub read_as : Kind → List ℕ → Answer
read_as k s = length_tells k (length s) then records_tell k s then totals_tell k s then keys_tell k s

-- 1: the kind is unknown
abbrev pub read_named : Option Kind → List ℕ → Answer
read_named (Some k) s = read_as k s
read_named None s = refused 1

unfoldable pub read_of : ℕ → List ℕ → Answer
read_of kind s = read_named (kind_of kind) s
