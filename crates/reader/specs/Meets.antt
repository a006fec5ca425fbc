-- What a file of a kind is, with nothing said of the order in which it is read.
use Rattle.std.specs.Prelude.{ℕ, ◌+◌, ◌*◌, ◌≤◌, ◌<◌, Bool, true, List, ◌≡◌, length, get_or}
use Rattle.kinds.specs.declared.of_files.Kind.{Kind}
use Rattle.tables.specs.declared.row.Row.{Row}
use Rattle.kinds.specs.Kinds.{fixed_of, limit}
use Rattle.tables.specs.Rows.{blank}
use Rattle.tables.specs.Tables.{rows_of}
use Rattle.tables.specs.Totals.{no_total, totals_of}
use Rattle.layout.specs.Rules.{holds}
use Rattle.records.specs.Records.{count_of, data_of, record_of, key_at}
use Rattle.reader.specs.Judged.{role_of}
use Rattle.reader.specs.Totals.{total_holds}

-- whole records, at least two, at most the limit and two
pub record Lengths (k : Kind) (s : List ℕ) : Type 0 where
  pub whole : length s ≡ count_of k s * (fixed_of k).size
  pub fewest : 2 ≤ count_of k s
  pub most : count_of k s ≤ limit + 2

-- the rows of record i, and whether row j of them holds
abbrev pub rows_at : Kind → List ℕ → ℕ → List Row
rows_at k s i = rows_of k (role_of (count_of k s) i)

abbrev pub row_holds : Kind → List ℕ → ℕ → ℕ → Bool
row_holds k s i j = holds k.own (record_of k s i) (record_of k s 0) i (get_or (rows_at k s i) j blank)

-- every row of the first n records holds
abbrev pub RowsHold : Kind → List ℕ → ℕ → Type 0
RowsHold k s n = (i : ℕ) → i < n → (j : ℕ) → j < length (rows_at k s i) → row_holds k s i j ≡ true

-- total j is what the records give, and each of the first n totals is
abbrev pub total_at : Kind → List ℕ → ℕ → Bool
total_at k s j = total_holds k s (get_or (totals_of k) j no_total)

abbrev pub TotalsHold : Kind → List ℕ → ℕ → Type 0
TotalsHold k s n = (j : ℕ) → j < n → total_at k s j ≡ true

-- no two data records share a key
abbrev pub Distinct : Kind → List ℕ → Type 0
Distinct k s = (i j : ℕ) → i < data_of k s → j < data_of k s → key_at k s i ≡ key_at k s j → i ≡ j

pub record Meets (k : Kind) (s : List ℕ) : Type 0 where
  pub lengths : Lengths k s
  pub rows : RowsHold k s (count_of k s)
  pub totals : TotalsHold k s (length (totals_of k))
  pub keys : Distinct k s
