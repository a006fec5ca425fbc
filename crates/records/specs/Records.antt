-- The records of a file by their place.
use Rattle.std.specs.Prelude.{ℕ, ◌+◌, ◌-◌, ◌*◌, ◌/◌, List, length}
use Rattle.laws.specs.Part.{part}
use Rattle.kinds.specs.declared.of_files.Kind.{Kind}
use Rattle.kinds.specs.Kinds.{fixed_of}

-- record i of a file of records of one size
unfoldable pub record_at : ℕ → ℕ → List ℕ → List ℕ
record_at size i s = part (i * size) size s

-- record i of a file of a kind: 0 is the header
abbrev pub record_of : Kind → List ℕ → ℕ → List ℕ
record_of k s i = record_at (fixed_of k).size i s

-- how many whole records so many bytes are
abbrev pub count_in : Kind → ℕ → ℕ
count_in k n = n / (fixed_of k).size

-- how many whole records a file has; how many of them are data, n; the trailer is record n + 1
unfoldable pub count_of : Kind → List ℕ → ℕ
count_of k s = count_in k (length s)

abbrev pub data_of : Kind → List ℕ → ℕ
data_of k s = count_of k s - 2

abbrev pub trailer_of : Kind → List ℕ → List ℕ
trailer_of k s = record_of k s (count_of k s - 1)

-- the key of data record i + 1
unfoldable pub key_at : Kind → List ℕ → ℕ → List ℕ
key_at k s i = part (fixed_of k).key.start (fixed_of k).key.size (record_of k s (i + 1))
