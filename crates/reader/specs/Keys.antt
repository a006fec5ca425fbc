-- No two data records share a key.
use Rattle.std.specs.Prelude.{ℕ, ◌+◌, Bool, cond, List, ltb}
use Rattle.laws.specs.Least.{least, some}
use Rattle.laws.specs.Part.{same}
use Rattle.answers.specs.declared.told.Answer.{Answer}
use Rattle.kinds.specs.declared.of_files.Kind.{Kind}
use Rattle.keys.specs.declared.stands.Spacing.{Spacing}
use Rattle.answers.specs.Answers.{accepted, refused_at}
use Rattle.kinds.specs.Kinds.{fixed_of}
use Rattle.records.specs.Records.{data_of, key_at}

-- where these keys stand in the file: one in each record, from the record after the header on
abbrev pub spacing_of : Kind → Spacing
spacing_of k = record { stride = (fixed_of k).size; offset = (fixed_of k).size + (fixed_of k).key.start; size = (fixed_of k).key.size }

unfoldable pub shares_key : Kind → List ℕ → ℕ → ℕ → Bool
shares_key k s i j = same (key_at k s i) (key_at k s j)

-- data record i + 1 has the key of an earlier one
unfoldable pub repeats : Kind → List ℕ → ℕ → Bool
repeats k s i = some (shares_key k s i) i

-- refusal 7 at the smallest record number that repeats an earlier key
unfoldable pub repeat_told : Kind → ℕ → ℕ → Answer
repeat_told k n i = cond (ltb i n) (refused_at 7 (i + 1) (fixed_of k).key.item 0x30303030) accepted

unfoldable pub keys_tell : Kind → List ℕ → Answer
keys_tell k s = repeat_told k (data_of k s) (least (repeats k s) (data_of k s))
