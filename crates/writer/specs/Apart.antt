-- A file taken apart: what it would have to be written from.
use Rattle.std.specs.Prelude.{ℕ, ◌+◌, List}
use Rattle.laws.specs.Part.{part}
use Rattle.laws.specs.Joined.{joined}
use Rattle.kinds.specs.declared.of_files.Kind.{Kind}
use Rattle.kinds.specs.Kinds.{front, fixed_of}
use Rattle.tables.specs.Places.{code_place, branch_place, account_place}
use Rattle.layout.specs.Items.{bytes_at, date_of}
use Rattle.records.specs.Records.{record_of, data_of}
use Rattle.builder.specs.Records.{Head, head_of}

-- what a header is written from, of a header: items 5, 3, 6 and 7
abbrev pub head_from : Kind → List ℕ → Head
head_from k header =
    head_of (date_of header) (bytes_at code_place header) (part branch_place.1 (fixed_of k).item6 header) (part account_place.1 (fixed_of k).item7 header)

-- and of a file
unfoldable pub head_in : Kind → List ℕ → Head
head_in k s = head_from k (record_of k s 0)

-- the body of data record i + 1: all that follows items 1 to 3
unfoldable pub body_at : Kind → List ℕ → ℕ → List ℕ
body_at k s i = part front (fixed_of k).body (record_of k s (i + 1))

-- the bodies of all data records, one after the other
unfoldable pub bodies_in : Kind → List ℕ → List ℕ
bodies_in k s = joined (body_at k s) (data_of k s)
