-- Writing an evidence file, decided before the first byte is stored: 2; the header; unit after unit; 7; 22; 8.
use Rattle.std.specs.Prelude.{ℕ, ◌+◌, ◌≤◌, ◌<◌, Bool, cond, ◌&&◌, List, ◌++◌, leb, eqb, length}
use Rattle.laws.specs.Least.{least}
use Rattle.laws.specs.Part.{part}
use Rattle.answers.specs.declared.told.Answer.{Answer}
use Rattle.answers.specs.Storing.{Stored, unless_refused, storing, at_front}
use Rattle.answers.specs.Answers.{accepted, refused, refused_at, refuses_at, first_told, ◌then◌}
use Rattle.keys.specs.Keys.{repeats_in}
use Rattle.kinds.specs.Kinds.{limit}
use Rattle.evidence_rows.specs.Tables.{header_rows, data_rows}
use Rattle.layout.specs.Judging.{judge_by}
use Rattle.evidence.specs.Blocks.{blocks_for, most_blocks}
use Rattle.evidence.specs.Judged.{no_own, length_good}
use Rattle.evidence.specs.Reading.{repeat_told}
use Rattle.evidence_units.specs.Units.{items, said_at, sort_at}
use Rattle.evidence_units.specs.Frames.{frames_told}
use Rattle.evidence_builder.specs.Units.{place_of, said_by, units_in, blocks_to}
use Rattle.evidence_builder.specs.Files.{header_block, record_front, file_of}

-- 2: a date that is not 8 bytes or a code that is not 10
unfoldable pub parts_told : List ℕ → List ℕ → Answer
parts_told date code = cond (eqb (length date) 8 && eqb (length code) 10) accepted (refused 2)

-- the header, as it would be written
unfoldable pub header_told : List ℕ → Answer
header_told header = judge_by no_own header_rows header header 0

-- of the unit at place p, with b blocks before it, as record n: 2 where it is cut short; its items; its length; 2 where its evidence is cut short; 3 for too many blocks
unfoldable pub items_told : Bool → List ℕ → List ℕ → List ℕ → ℕ → ℕ → Answer
items_told exempt header code x p n = judge_by no_own (data_rows exempt) (record_front code n ++ part p items x) header n

unfoldable pub length_told : Bool → List ℕ → ℕ → ℕ → Answer
length_told exempt x p n = cond (length_good exempt (sort_at x p) (said_at x p)) accepted (refused_at 4 n 12 0x30313033)

unfoldable pub evidence_told : List ℕ → ℕ → ℕ → Answer
evidence_told x p b =
    cond (leb (p + (items + said_at x p)) (length x)) (cond (leb (b + blocks_for (said_at x p)) most_blocks) accepted (refused 3)) (refused 2)

unfoldable pub unit_told : Bool → List ℕ → List ℕ → List ℕ → ℕ → ℕ → ℕ → Answer
unit_told exempt header code x p b n =
    cond (leb (p + items) (length x)) (items_told exempt header code x p n then (length_told exempt x p n then evidence_told x p b)) (refused 2)

-- unit i when it is met: the limit's next one is 3, before anything of it
unfoldable pub record_told : Bool → List ℕ → List ℕ → List ℕ → ℕ → Answer
record_told exempt header code x i = cond (eqb i limit) (refused 3) (unit_told exempt header code x (place_of x i) (blocks_to x i) (i + 1))

unfoldable pub records_told : Bool → List ℕ → List ℕ → List ℕ → Answer
records_told exempt header code x = first_told (record_told exempt header code x) (units_in x)

-- how many units are good before the first that is refused
unfoldable pub good_to : Bool → List ℕ → List ℕ → List ℕ → ℕ
good_to exempt header code x = least (refuses_at (record_told exempt header code x)) (units_in x)

-- 7 at the first unit whose items 6 to 9 are an earlier one's
unfoldable pub key_of : List ℕ → ℕ → List ℕ
key_of x i = part (place_of x i) 61 x

unfoldable pub keys_told : List ℕ → Answer
keys_told x = repeat_told (units_in x) (least (repeats_in (key_of x)) (units_in x))

-- 22 at the first unit whose evidence is to be signed and has not the frame
unfoldable pub signed_told : List ℕ → Answer
signed_told x = frames_told x (place_of x) (units_in x)

-- everything but the room
unfoldable pub decided : Bool → List ℕ → List ℕ → List ℕ → Answer
decided exempt date code x =
    parts_told date code then
    (header_told (header_block date code (units_in x)) then
    (records_told exempt (header_block date code (units_in x)) code x then (keys_told x then signed_told x)))

-- 8 last
unfoldable pub write_told : Bool → List ℕ → List ℕ → List ℕ → ℕ → Answer
write_told exempt date code x room = decided exempt date code x then cond (leb (length (file_of date code x)) room) accepted (refused 8)

-- what is stored: the file; nothing when refused
unfoldable pub write_stored : Bool → List ℕ → List ℕ → List ℕ → ℕ → List ℕ
write_stored exempt date code x room = unless_refused (write_told exempt date code x room) (file_of date code x)

unfoldable pub write_of : Bool → List ℕ → List ℕ → List ℕ → ℕ → Stored
write_of exempt date code x room = storing (write_told exempt date code x room) (write_stored exempt date code x room)

unfoldable pub write_after : Bool → List ℕ → List ℕ → List ℕ → List ℕ → List ℕ
write_after exempt date code x room = at_front (write_stored exempt date code x (length room)) room

-- the first n units lie within what is given
abbrev pub Whole : List ℕ → ℕ → Type 0
Whole x n = (i : ℕ) → i < n → place_of x i + (items + said_by x i) ≤ length x
