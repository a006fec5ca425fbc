-- An EB12, record by record: those of the EB11, with other bytes stored at some places.
use Rattle.std.specs.Prelude.{ℕ, zero, suc, ◌+◌, cond, List, [], ◌∷◌, ◌++◌, ◌≡◌, length, get_or, replicate}
use Rattle.laws.specs.Joined.{joined}
use Rattle.laws.specs.Stored.{stored}
use Rattle.laws.specs.Sum.{sum}
use Rattle.numbers.specs.Numbers.{digits_of, letter_of}
use Rattle.kinds.specs.Kinds.{EB11}
use Rattle.tables.specs.declared.totals.Quantity.{Quantity}
use Rattle.tables.specs.declared.totals.Total.{Total}
use Rattle.tables.specs.Totals.{no_total, totals_of}
use Rattle.records.specs.Records.{record_of, data_of, trailer_of}
use Rattle.records.specs.Quantities.{worth_at}
use Rattle.reader.specs.Meets.{Meets}
use Rattle.changes.specs.Halves.{record_in}
use Rattle.changes.specs.Answers.{says_no}

-- an accepted EB11, and an answer for each of its records
pub record Answered (s answers : List ℕ) : Type 0 where
  pub meets : Meets EB11 s
  pub many : length answers ≡ data_of EB11 s

-- how many of the first i records are refused
unfoldable pub one_if : List ℕ → ℕ → ℕ
one_if answers i = cond (says_no answers i) 1 0

unfoldable pub refused_to : List ℕ → ℕ → ℕ
refused_to answers i = sum (one_if answers) i

-- what the refused records give for a quantity
unfoldable pub worth_if : List ℕ → List ℕ → Quantity → ℕ → ℕ
worth_if s answers q i = cond (says_no answers i) (worth_at EB11 s q i) 0

unfoldable pub refused_of : List ℕ → List ℕ → Quantity → ℕ
refused_of s answers q = sum (worth_if s answers q) (data_of EB11 s)

-- "EB12", with which the name begins in item 4 of the header and of the trailer
unfoldable pub name : List ℕ
name = 0x45 ∷ 0x42 ∷ 0x31 ∷ 0x32 ∷ []

-- the header: that of the EB11 under this name
unfoldable pub header_for : List ℕ → List ℕ
header_for s = stored 19 name (record_of EB11 s 0)

-- item 12: "N" and the code
unfoldable pub result_for : ℕ → List ℕ
result_for code = 0x4E ∷ letter_of code 0 ∷ letter_of code 1 ∷ letter_of code 2 ∷ letter_of code 3 ∷ []

-- a refused record: as it was, but for items 2 and 12
unfoldable pub refused_for : List ℕ → ℕ → ℕ → List ℕ
refused_for rec serial code = stored 91 (result_for code) (stored 1 (digits_of 8 serial) rec)

-- record i + 1, where it is refused: numbered behind those that are refused before it
unfoldable pub record_for : List ℕ → List ℕ → ℕ → List ℕ
record_for s answers i = cond (says_no answers i) (refused_for (record_in s i) (refused_to answers i + 1) (get_or answers i 0)) []

-- the first t totals of the trailer, of the refused records
abbrev pub total_in : ℕ → Total
total_in t = get_or (totals_of EB11) t no_total

unfoldable pub totals_to : List ℕ → List ℕ → List ℕ → ℕ → List ℕ
totals_to s answers rec zero = rec
totals_to s answers rec (suc t) =
    stored (total_in t).1 (digits_of (total_in t).2 (refused_of s answers (total_in t).3)) (totals_to s answers rec t)

-- the trailer: that of the EB11 under the other name, with these totals and with spaces for the MAC
unfoldable pub trailer_for : List ℕ → List ℕ → List ℕ
trailer_for s answers = totals_to s answers (stored 110 (replicate 10 0x20) (stored 19 name (trailer_of EB11 s))) (length (totals_of EB11))

-- the file: header, refused records, trailer
unfoldable pub file_for : List ℕ → List ℕ → List ℕ
file_for s answers = header_for s ++ (joined (record_for s answers) (data_of EB11 s) ++ trailer_for s answers)

-- what the records with a yes give for a quantity
unfoldable pub worth_unless : List ℕ → List ℕ → Quantity → ℕ → ℕ
worth_unless s answers q i = cond (says_no answers i) 0 (worth_at EB11 s q i)

unfoldable pub applied_of : List ℕ → List ℕ → Quantity → ℕ
applied_of s answers q = sum (worth_unless s answers q) (data_of EB11 s)
