-- Reading an evidence file: 2, 3; the header; the records; the trailer; 6; 7; 22.
use Rattle.std.specs.Prelude.{ℕ, ◌+◌, ◌%◌, Bool, cond, ◌&&◌, List, ◌++◌, leb, ltb, eqb, length, drop}
use Rattle.laws.specs.Least.{least}
use Rattle.laws.specs.Part.{part}
use Rattle.laws.specs.Tabulate.{tabulate}
use Rattle.numbers.specs.Numbers.{says}
use Rattle.answers.specs.declared.told.Answer.{Answer}
use Rattle.answers.specs.Answers.{accepted, refused, refused_at, refuses, ◌then◌}
use Rattle.keys.specs.Keys.{repeats_in}
use Rattle.evidence_units.specs.Frames.{frames_told}
use Rattle.evidence.specs.Blocks.{block, most_blocks, blocks_in, last_block, data_blocks, block_at, records_in}
use Rattle.evidence.specs.Judged.{header_told, records_told, good_to, byte_of, unit_byte, trailer_told}
use Rattle.evidence.specs.Stopping.{Looked, looked}

-- whole blocks, and two at least; then no more data blocks than may be
unfoldable pub is_whole : List ℕ → Bool
is_whole s = eqb (length s % block) 0 && leb 2 (blocks_in s)

unfoldable pub size_told : List ℕ → Answer
size_told s = cond (is_whole s) (cond (leb (blocks_in s) (most_blocks + 2)) accepted (refused 3)) (refused 2)

-- counts: item 6 of the header, items 5 and 6 of the trailer
unfoldable pub count_told : Bool → ℕ → ℕ → Answer
count_told said n item = cond said accepted (refused_at 6 n item 0x30303030)

unfoldable pub counts_told : List ℕ → Answer
counts_told s =
    count_told (says (part 43 7 (block_at s 0)) (records_in s)) 0 6 then
    (count_told (says (part 35 7 (block_at s (last_block s))) (records_in s)) (records_in s + 1) 5 then
    count_told (says (part 42 10 (block_at s (last_block s))) (data_blocks s)) (records_in s + 1) 6)

-- the key of record i + 1: its items 6 to 9
unfoldable pub key_of : List ℕ → ℕ → List ℕ
key_of s i = part (byte_of s i + 45) 61 s

-- 7 at the first record whose key is an earlier one's
unfoldable pub repeat_told : ℕ → ℕ → Answer
repeat_told n i = cond (ltb i n) (refused_at 7 (i + 1) 6 0x30303030) accepted

unfoldable pub keys_told : List ℕ → Answer
keys_told s = repeat_told (records_in s) (least (repeats_in (key_of s)) (records_in s))

-- 22 at the first record whose evidence is to be signed and has not the frame
unfoldable pub signed_told : List ℕ → Answer
signed_told s = frames_told s (unit_byte s) (records_in s)

-- what reading any bytes says
unfoldable pub read_of : Bool → List ℕ → Answer
read_of exempt s =
    size_told s then (header_told s then (records_told exempt s then (trailer_told s then (counts_told s then (keys_told s then signed_told s)))))

-- how many records were found good: none where the size or the header is refused
unfoldable pub good_in : Bool → List ℕ → ℕ
good_in exempt s = cond (refuses (size_told s then header_told s)) 0 (good_to exempt s)

abbrev pub looked_at : Bool → List ℕ → Looked
looked_at exempt s = looked (read_of exempt s) (good_in exempt s)

-- a lent list with the first byte of each of them in front
unfoldable pub places_of : Bool → List ℕ → List ℕ → List ℕ
places_of exempt s old = tabulate (byte_of s) (good_in exempt s) ++ drop (good_in exempt s) old
