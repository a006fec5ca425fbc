-- What an EB12 is, item by item, of an EB11 and the answers to it; and what answering it says.
use Rattle.std.specs.Prelude.{ℕ, ◌+◌, ◌*◌, ◌≤◌, ◌<◌, true, false, List, ◌∷◌, [], ◌++◌, ◌≡◌, length, get_or, drop, replicate}
use Rattle.laws.specs.Part.{part}
use Rattle.numbers.specs.Numbers.{word_of, value_of, digits_of}
use Rattle.kinds.specs.Kinds.{EB11}
use Rattle.tables.specs.Totals.{totals_of}
use Rattle.answers.specs.declared.told.Answer.{Answer}
use Rattle.answers.specs.Answers.{accepted, refused}
use Rattle.records.specs.Records.{record_at, record_of, data_of, trailer_of, key_at}
use Rattle.changes.specs.Halves.{record_in}
use Rattle.changes.specs.Answers.{says_no}
use Rattle.changes.specs.Deciding.{decided}
use Rattle.changes.specs.Says.{Whole}
use Rattle.changes_writer.specs.Building.{name, refused_to, refused_of, total_in, file_for}
use Rattle.changes_writer.specs.Writing.{write_of, room_after}

-- record i of the file
abbrev pub record_from : List ℕ → ℕ → List ℕ
record_from file i = record_at 120 i file

-- the header is the EB11's but for the kind in item 4
pub record Headed (old new : List ℕ) : Type 0 where
  pub before : part 0 19 new ≡ part 0 19 old
  pub named : part 19 4 new ≡ name
  pub behind : part 23 97 new ≡ part 23 97 old

-- a refused record is as it was, but for its serial, item 2, and its result, item 12
pub record Refused (old : List ℕ) (serial code : ℕ) (new : List ℕ) : Type 0 where
  pub mark : part 0 1 new ≡ part 0 1 old
  pub numbered : part 1 8 new ≡ digits_of 8 serial
  pub before : part 9 82 new ≡ part 9 82 old
  pub no : part 91 1 new ≡ 0x4E ∷ []
  pub told : word_of (part 92 4 new) ≡ code
  pub behind : part 96 24 new ≡ part 96 24 old

-- the trailer is the EB11's but for the kind in item 4, the totals, which are those of the refused records, and the MAC, which is spaces
pub record Closed (s answers old new : List ℕ) : Type 0 where
  pub before : part 0 19 new ≡ part 0 19 old
  pub named : part 19 4 new ≡ name
  pub day : part 23 4 new ≡ part 23 4 old
  pub totals : (t : ℕ) → t < length (totals_of EB11) → value_of (part (total_in t).1 (total_in t).2 new) ≡ refused_of s answers (total_in t).3
  pub zeros : part 43 8 new ≡ part 43 8 old
  pub blank : part 67 43 new ≡ part 67 43 old
  pub mac : part 110 10 new ≡ replicate 10 0x20

-- the file holds exactly the refused records, in order
pub record Holds (s answers file : List ℕ) : Type 0 where
  -- a header, as many records as are refused, a trailer
  pub long : length file ≡ (refused_to answers (data_of EB11 s) + 2) * 120
  pub header : Headed (record_of EB11 s 0) (record_from file 0)
  pub trailer : Closed s answers (trailer_of EB11 s) (record_from file (refused_to answers (data_of EB11 s) + 1))
  -- each refused record stands behind those that are refused before it
  pub each : (i : ℕ) → i < data_of EB11 s → says_no answers i ≡ true →
      Refused (record_in s i) (refused_to answers i + 1) (get_or answers i 0) (record_from file (refused_to answers i + 1))
  -- in their order
  pub order : (i j : ℕ) → i < j → j < data_of EB11 s → says_no answers i ≡ true → refused_to answers i < refused_to answers j
  -- and every record of the file is one of them
  pub only : (k : ℕ) → k < refused_to answers (data_of EB11 s) → (i : ℕ) × ((i < data_of EB11 s) × ((says_no answers i ≡ true) × (refused_to answers i ≡ k)))
  -- so no record with a yes is anywhere in it
  pub nowhere : (i k : ℕ) → i < data_of EB11 s → says_no answers i ≡ false → k < refused_to answers (data_of EB11 s) →
      part 25 21 (record_from file (k + 1)) ≡ key_at EB11 s i → ⊥

-- what answering says
pub data Tells (s answers : List ℕ) (room : ℕ) : Answer → Type 0 where
  -- what is told before the room is asked for
  before : ((decided s answers).number ≡ 0 → ⊥) → Tells s answers room (decided s answers)
  -- 8: the room is less than the file
  short : Whole s answers → room < (refused_to answers (data_of EB11 s) + 2) * 120 → Tells s answers room (refused 8)
  -- 0: none of these
  good : Whole s answers → (refused_to answers (data_of EB11 s) + 2) * 120 ≤ room → Tells s answers room accepted

-- what was written into a room
pub record Wrote (s answers room : List ℕ) : Type 0 where
  pub holds : Holds s answers (file_for s answers)
  pub stands : room_after s answers room ≡ file_for s answers ++ drop (length (file_for s answers)) room
  pub told : write_of s answers (length room) ≡ record { answer = accepted; size = (refused_to answers (data_of EB11 s) + 2) * 120 }
