-- A change: two records of an EB11 that say "CHNG", of kinds "3" and "1", of one payer, with another branch or account.
use Rattle.std.specs.Prelude.{ℕ, ◌+◌, Bool, cond, not, ◌&&◌, ◌||◌, List, eqb}
use Rattle.laws.specs.Least.{least}
use Rattle.laws.specs.Part.{same}
use Rattle.kinds.specs.Kinds.{EB11}
use Rattle.tables.specs.Places.{member_place, bank_place, holding_place}
use Rattle.layout.specs.Items.{bytes_at, application_of, office_of, change}
use Rattle.records.specs.Records.{record_of, data_of}

-- the record says "CHNG" in item 10
unfoldable pub changes : List ℕ → Bool
changes rec = eqb (office_of rec) change

-- kinds "3" and "1", in either order
unfoldable pub opposite : ℕ → ℕ → Bool
opposite a b = cond (eqb a 0x33) (eqb b 0x31) (eqb a 0x31 && eqb b 0x33)

-- item 6, the payer, is the same
unfoldable pub same_payer : List ℕ → List ℕ → Bool
same_payer a b = same (bytes_at member_place a) (bytes_at member_place b)

-- item 7 or 8, the branch or the account, is different
unfoldable pub moves : List ℕ → List ℕ → Bool
moves a b = not (same (bytes_at bank_place a) (bytes_at bank_place b)) || not (same (bytes_at holding_place a) (bytes_at holding_place b))

-- the two records are the halves of one change
unfoldable pub halves : List ℕ → List ℕ → Bool
halves a b = changes a && (changes b && (opposite (application_of a) (application_of b) && (same_payer a b && moves a b)))

-- data record i + 1 of an EB11, and whether two of them are the halves of one change
abbrev pub record_in : List ℕ → ℕ → List ℕ
record_in s i = record_of EB11 s (i + 1)

unfoldable pub halves_in : List ℕ → ℕ → ℕ → Bool
halves_in s i j = halves (record_in s i) (record_in s j)

-- the place of the other half of record i + 1; the number of records where there is none
unfoldable pub other_of : List ℕ → ℕ → ℕ
other_of s i = least (halves_in s i) (data_of EB11 s)
