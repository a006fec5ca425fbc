-- What the writer answers, and what the room holds after it.
use Rattle.std.specs.Prelude.{ℕ, ◌+◌, ◌-◌, ◌*◌, ◌%◌, Bool, cond, ◌&&◌, List, [], ◌++◌, leb, ltb, eqb, length, get_or, drop, Option, Some, None}
use Rattle.laws.specs.Least.{least}
use Rattle.laws.specs.Part.{part}
use Rattle.laws.specs.Sum.{sum}
use Rattle.numbers.specs.Numbers.{says}
use Rattle.kinds.specs.declared.of_files.Kind.{Kind}
use Rattle.kinds.specs.declared.of_files.Role.TheVariants.{Header, Data, Trailer}
use Rattle.kinds.specs.Kinds.{front, fixed_of, limit, request_of}
use Rattle.tables.specs.Places.{code_place, date_place}
use Rattle.tables.specs.declared.totals.Total.{Total}
use Rattle.tables.specs.Totals.{no_total, totals_of}
use Rattle.answers.specs.declared.told.Answer.{Answer}
use Rattle.answers.specs.Answers.{accepted, refused, refused_at, first_told, ◌then◌}
use Rattle.layout.specs.Judging.{judge_of}
use Rattle.records.specs.Quantities.{worth}
use Rattle.keys.specs.declared.stands.Spacing.{Spacing}
use Rattle.keys.specs.Keys.{repeats_in}
use Rattle.keys.specs.Stands.{key_in}
use Rattle.reader.specs.Keys.{repeat_told}
use Rattle.reader.specs.Reading.{read_as}
use Rattle.builder.specs.Records.{Head, body_count, data_built, built_totals, trailer_built}
use Rattle.builder.specs.Files.{file_of}

-- every part is as long as its item, and the bodies are whole
unfoldable pub parts_fit : Head → List ℕ → ℕ → ℕ → ℕ → Bool
parts_fit h bodies long6 long7 body =
    eqb (length h.date) date_place.2 && (eqb (length h.code) code_place.2 && (eqb (length h.item6) long6 && (eqb (length h.item7) long7 &&
    eqb (length bodies % body) 0)))

-- 2, 3, 8, then as reading the file to be written
unfoldable pub write_as : Kind → Head → List ℕ → ℕ → Answer
write_as k h bodies room =
    cond (parts_fit h bodies (fixed_of k).item6 (fixed_of k).item7 (fixed_of k).body)
    (cond (leb (body_count k bodies) limit)
    (cond (leb ((body_count k bodies + 2) * (fixed_of k).size) room) (read_as k (file_of k h bodies)) (refused 8))
    (refused 3))
    (refused 2)

-- what the room holds after it: the file and what stood past it, or what it held
unfoldable pub after_as : Kind → Head → List ℕ → List ℕ → List ℕ
after_as k h bodies room =
    cond (eqb (write_as k h bodies (length room)).number 0) (file_of k h bodies ++ drop (length (file_of k h bodies)) room) room

-- other kinds are 1, and leave the room as it was
abbrev pub write_named : Option Kind → Head → List ℕ → ℕ → Answer
write_named (Some k) h bodies room = write_as k h bodies room
write_named None h bodies room = refused 1

abbrev pub after_named : Option Kind → Head → List ℕ → List ℕ → List ℕ
after_named (Some k) h bodies room = after_as k h bodies room
after_named None h bodies room = room

unfoldable pub write_of : ℕ → Head → List ℕ → ℕ → Answer
write_of kind h bodies room = write_named (request_of kind) h bodies room

unfoldable pub room_after : ℕ → Head → List ℕ → List ℕ → List ℕ
room_after kind h bodies room = after_named (request_of kind) h bodies room

-- What is told of records that are built one by one: of the header, of data record i + 1, of the trailer behind n of them
unfoldable pub header_told : Kind → List ℕ → Answer
header_told k header = judge_of k Header header header 0

unfoldable pub data_told : Kind → List ℕ → List ℕ → ℕ → Answer
data_told k header bodies i = judge_of k Data (data_built k header bodies i) header (i + 1)

unfoldable pub trailer_told : Kind → List ℕ → List ℕ → ℕ → Answer
trailer_told k header sums n = judge_of k Trailer (trailer_built k header sums) header (n + 1)

-- what a data record adds to sum t, and sum t of the first i of them
unfoldable pub worth_for : Kind → List ℕ → ℕ → ℕ
worth_for k rec t = cond (ltb t (length (totals_of k))) (worth (get_or (totals_of k) t no_total).3 rec) 0

unfoldable pub worth_built : Kind → List ℕ → List ℕ → ℕ → ℕ → ℕ
worth_built k header bodies t i = worth_for k (data_built k header bodies i) t

unfoldable pub sum_to : Kind → List ℕ → List ℕ → ℕ → ℕ → ℕ
sum_to k header bodies i t = sum (worth_built k header bodies t) i

-- sum t with one record more
unfoldable pub sum_with : Kind → List ℕ → List ℕ → ℕ → ℕ
sum_with k rec sums t = get_or sums t 0 + worth_for k rec t

-- of a total: refusal 6 where the trailer, which is record `number`, does not say the sum
abbrev pub total_told : List ℕ → ℕ → Total → ℕ → Answer
total_told trailer number t sum = cond (says (part t.1 t.2 trailer) sum) accepted (refused_at 6 number t.0 0x30303030)

-- of total t, and of all of them, by item
unfoldable pub sum_told : Kind → List ℕ → List ℕ → ℕ → ℕ → Answer
sum_told k trailer sums number t = total_told trailer number (get_or (totals_of k) t no_total) (get_or sums t 0)

unfoldable pub sums_told : Kind → List ℕ → List ℕ → ℕ → Answer
sums_told k trailer sums number = first_told (sum_told k trailer sums number) (length (totals_of k))

-- where the keys stand in the bodies: one in each
abbrev pub body_spacing : Kind → Spacing
body_spacing k = record { stride = (fixed_of k).body; offset = (fixed_of k).key.start - front; size = (fixed_of k).key.size }

-- of the keys, where they lie in the bodies
unfoldable pub keys_told : Kind → List ℕ → Answer
keys_told k bodies =
    repeat_told k (body_count k bodies)
    (least (repeats_in (key_in [] (body_spacing k) bodies)) (body_count k bodies))

-- the first refusal among them, in that order
unfoldable pub built_told : Kind → List ℕ → List ℕ → Answer
built_told k header bodies =
    header_told k header then first_told (data_told k header bodies) (body_count k bodies) then trailer_told k header (built_totals k header bodies) (body_count k bodies) then
    sums_told k (trailer_built k header (built_totals k header bodies)) (built_totals k header bodies) (body_count k bodies + 1) then keys_told k bodies
