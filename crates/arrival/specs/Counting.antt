-- Bytes counted without end: past the longest file only what a length still decides by is kept.
use Rattle.std.specs.Prelude.{ℕ, ◌+◌, ◌*◌, ◌/◌, ◌%◌, cond, ltb}
use Rattle.kinds.specs.Kinds.{limit}

-- the longest file that the limit allows: of records of 150 bytes
abbrev pub longest : ℕ
longest = (limit + 2) * 150

-- records of 120 and of 150 bytes both end where it ends
abbrev pub cycle : ℕ
cycle = 600

-- the first whole number of cycles past the longest file
abbrev pub turn : ℕ
turn = (longest / cycle + 1) * cycle

-- below the turn a number is counted as it is; from there on only by what it has over whole cycles, so that no count runs over
unfoldable pub counted : ℕ → ℕ
counted n = cond (ltb n turn) n (turn + n % cycle)
