-- What each answer of the reader says: the place reported is the first, in the order of reading, at which something is wrong.
use Rattle.std.specs.Prelude.{ℕ, ◌+◌, ◌-◌, ◌<◌, true, false, List, ◌≡◌, length, get_or}
use Rattle.kinds.specs.declared.of_files.Kind.{Kind}
use Rattle.kinds.specs.Kinds.{fixed_of, limit}
use Rattle.tables.specs.Rows.{blank}
use Rattle.tables.specs.Totals.{no_total, totals_of}
use Rattle.answers.specs.declared.told.Answer.{Answer}
use Rattle.answers.specs.Answers.{accepted, refused, refused_at}
use Rattle.layout.specs.Judging.{broken_at}
use Rattle.records.specs.Records.{count_of, data_of}
use Rattle.reader.specs.Keys.{repeats}
use Rattle.reader.specs.Reading.{is_whole}
use Rattle.reader.specs.Meets.{Lengths, rows_at, row_holds, RowsHold, total_at, TotalsHold, Meets}

pub data Says (k : Kind) (s : List ℕ) : Answer → Type 0 where
  -- 0: the file meets every rule
  good : Meets k s → Says k s accepted
  -- 2: no whole number of records, or fewer than two
  short : is_whole k (length s) ≡ false → Says k s (refused 2)
  -- 3: too many data records
  long : is_whole k (length s) ≡ true → limit + 2 < count_of k s → Says k s (refused 3)
  -- 4, 5: row j of record i does not hold, and every row before it in file order does
  row : (i j : ℕ) → Lengths k s → i < count_of k s → j < length (rows_at k s i) → row_holds k s i j ≡ false →
      ((m : ℕ) → m < j → row_holds k s i m ≡ true) → RowsHold k s i → Says k s (broken_at i (get_or (rows_at k s i) j blank))
  -- 6: all rows hold, and total j is the first that is not what the records give
  total : (j : ℕ) → Lengths k s → RowsHold k s (count_of k s) → j < length (totals_of k) → total_at k s j ≡ false →
      TotalsHold k s j → Says k s (refused_at 6 (count_of k s - 1) (get_or (totals_of k) j no_total).0 0x30303030)
  -- 7: the totals agree too, and record i + 1 is the smallest that repeats an earlier key
  key : (i : ℕ) → Lengths k s → RowsHold k s (count_of k s) → TotalsHold k s (length (totals_of k)) → i < data_of k s →
      repeats k s i ≡ true → ((m : ℕ) → m < i → repeats k s m ≡ false) →
      Says k s (refused_at 7 (i + 1) (fixed_of k).key.item 0x30303030)
