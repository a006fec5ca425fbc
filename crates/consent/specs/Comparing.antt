-- An enrolment request, EB13, beside its evidence, EI13: both readings, then 12, 20, 21.
use Rattle.std.specs.Prelude.{ℕ, ◌+◌, Bool, cond, ◌&&◌, List, ◌∷◌, ◌++◌, eqb, get_or, replicate}
use Rattle.laws.specs.Least.{none}
use Rattle.laws.specs.Part.{part, same}
use Rattle.answers.specs.declared.told.Answer.{Answer}
use Rattle.answers.specs.Answers.{accepted, refused_at, first_told, ◌then◌, on_side}
use Rattle.kinds.specs.Kinds.{EB13}
use Rattle.records.specs.Records.{record_of, data_of}
use Rattle.reader.specs.Reading.{read_as}
use Rattle.evidence.specs.Blocks.{records_in}
use Rattle.evidence.specs.Reading.{key_of, read_of}

-- years are 20YY
abbrev pub long_date : List ℕ → List ℕ
long_date date = 0x32 ∷ 0x30 ∷ date

-- the evidence that an enrolment asks for, as items 6 to 9 of its record: payer, bank, account, date
unfoldable pub asked_by : List ℕ → List ℕ
asked_by r =
    part 26 20 r ++ (replicate 10 0x20 ++ (part 46 3 r ++ (part 53 16 r ++ (replicate 4 0x20 ++ long_date (part 19 6 r)))))

-- data record i + 1 of the enrolments; it is a new one, of kind "1"
abbrev pub enrolment : List ℕ → ℕ → List ℕ
enrolment e i = record_of EB13 e (i + 1)

unfoldable pub is_new : List ℕ → ℕ → Bool
is_new e i = eqb (get_or (enrolment e i) 25 0) 0x31

-- evidence record j + 1 is the one that enrolment i + 1 asks for
unfoldable pub belongs : List ℕ → List ℕ → ℕ → ℕ → Bool
belongs e s i j = is_new e i && same (key_of s j) (asked_by (enrolment e i))

-- 12: the institution codes, then the dates
unfoldable pub headers_told : List ℕ → List ℕ → Answer
headers_told e s =
    cond (same (part 9 10 e) (part 23 10 s))
    (cond (same (long_date (part 27 6 e)) (part 15 8 s)) accepted (refused_at 12 0 5 0x30303030))
    (refused_at 12 0 3 0x30303030)

-- 20 at a new enrolment without evidence, 21 at evidence without one
unfoldable pub lacks_told : List ℕ → List ℕ → ℕ → Answer
lacks_told e s i = cond (is_new e i && none (belongs e s i) (records_in s)) (refused_at 20 (i + 1) 6 0x30303030) accepted

unfoldable pub foreign_told : List ℕ → List ℕ → ℕ → Answer
foreign_told e s j = cond (none (λ i. belongs e s i j) (data_of EB13 e)) (refused_at 21 (j + 1) 6 0x30303030) accepted

unfoldable pub compare_of : Bool → List ℕ → List ℕ → Answer
compare_of exempt e s =
    on_side 1 (read_as EB13 e) then
    (on_side 2 (read_of exempt s) then
    (headers_told e s then
    (first_told (lacks_told e s) (data_of EB13 e) then
    first_told (foreign_told e s) (records_in s))))
