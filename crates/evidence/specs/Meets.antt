-- What an evidence file is, with nothing said of the order of reading nor of the walk from record to record.
use Rattle.std.specs.Prelude.{ℕ, ◌+◌, ◌*◌, ◌≤◌, ◌<◌, Bool, true, List, ◌++◌, ◌≡◌, length, get_or, drop}
use Rattle.laws.specs.Joined.{joined}
use Rattle.laws.specs.Part.{part}
use Rattle.laws.specs.Sum.{sum}
use Rattle.text.specs.Characters.{spaces}
use Rattle.numbers.specs.Numbers.{value_of, says}
use Rattle.kinds.specs.Kinds.{limit}
use Rattle.keys.specs.Keys.{Distinct}
use Rattle.tables.specs.declared.row.Row.{Row}
use Rattle.tables.specs.Rows.{blank}
use Rattle.evidence_units.specs.Frames.{SignedIf}
use Rattle.evidence_rows.specs.Tables.{header_rows, data_rows, trailer_rows}
use Rattle.layout.specs.Rules.{holds}
use Rattle.evidence.specs.Blocks.{block, front, most_blocks, blocks_for}
use Rattle.evidence.specs.Judged.{no_own, length_good}

-- how many bytes of evidence a record says it has, and how many blocks it takes with them
abbrev pub evidence_of : List ℕ → ℕ
evidence_of rec = value_of (part 112 7 rec)

abbrev pub blocks_of : List ℕ → ℕ
blocks_of rec = blocks_for (evidence_of rec)

-- how many blocks the first n records take
abbrev pub blocks_to : (ℕ → List ℕ) → ℕ → ℕ
blocks_to entry n = sum (λ i. blocks_of (entry i)) n

-- every row holds in record n
abbrev pub RowsHold : List Row → List ℕ → List ℕ → ℕ → Type 0
RowsHold rows rec header n = (j : ℕ) → j < length rows → holds no_own rec header n (get_or rows j blank) ≡ true

-- record n: whole blocks, items 1 to 12 by their rows, a length that is good for the kind, and spaces behind the evidence
pub record Fits (exempt : Bool) (header rec : List ℕ) (n : ℕ) : Type 0 where
  pub whole : length rec ≡ blocks_of rec * block
  pub rows : RowsHold (data_rows exempt) (part 0 front rec) header n
  pub size : length_good exempt (get_or rec 106 0) (evidence_of rec) ≡ true
  pub filler : spaces (drop (front + evidence_of rec) rec) ≡ true

-- a header, n records and a trailer
pub record Composed (exempt : Bool) (s header trailer : List ℕ) (n : ℕ) (entry : ℕ → List ℕ) : Type 0 where
  pub all : s ≡ header ++ (joined entry n ++ trailer)
  pub header-long : length header ≡ block
  pub trailer-long : length trailer ≡ block
  pub few : n ≤ limit
  pub most : blocks_to entry n ≤ most_blocks
  pub header-rows : RowsHold header_rows header header 0
  pub entries : (i : ℕ) → i < n → Fits exempt header (entry i) (i + 1)
  pub trailer-rows : RowsHold trailer_rows trailer header (n + 1)
  pub header-count : says (part 43 7 header) n ≡ true
  pub trailer-count : says (part 35 7 trailer) n ≡ true
  pub trailer-blocks : says (part 42 10 trailer) (blocks_to entry n) ≡ true
  pub keys : Distinct (λ i. part 45 61 (entry i)) n
  pub signed : (i : ℕ) → i < n → SignedIf (get_or (entry i) 106 0) (part front (evidence_of (entry i)) (entry i))

pub record Meets (exempt : Bool) (s : List ℕ) : Type 0 where
  pub header : List ℕ
  pub trailer : List ℕ
  pub count : ℕ
  pub entry : ℕ → List ℕ
  pub composed : Composed exempt s header trailer count entry
