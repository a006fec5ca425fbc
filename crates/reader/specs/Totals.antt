-- The trailer's totals against what the data records give.
use Rattle.std.specs.Prelude.{ℕ, ◌-◌, Bool, cond, List, length, get_or}
use Rattle.laws.specs.Part.{part}
use Rattle.numbers.specs.Numbers.{says}
use Rattle.answers.specs.declared.told.Answer.{Answer}
use Rattle.kinds.specs.declared.of_files.Kind.{Kind}
use Rattle.tables.specs.declared.totals.Total.{Total}
use Rattle.answers.specs.Answers.{accepted, refused_at, first_told}
use Rattle.tables.specs.Totals.{no_total, totals_of}
use Rattle.records.specs.Records.{count_of, trailer_of}
use Rattle.records.specs.Quantities.{quantity_of}

-- the trailer's item says the quantity
unfoldable pub total_holds : Kind → List ℕ → Total → Bool
total_holds k s t = says (part t.1 t.2 (trailer_of k s)) (quantity_of k s t.3)

-- what is told of a total: refusal 6 at the trailer and its item
abbrev pub total_told : Kind → List ℕ → Total → Answer
total_told k s t = cond (total_holds k s t) accepted (refused_at 6 (count_of k s - 1) t.0 0x30303030)

-- what is told of total j
unfoldable pub total_tells : Kind → List ℕ → ℕ → Answer
total_tells k s j = total_told k s (get_or (totals_of k) j no_total)

-- what is told of the totals, by item
unfoldable pub totals_tell : Kind → List ℕ → Answer
totals_tell k s = first_told (total_tells k s) (length (totals_of k))
