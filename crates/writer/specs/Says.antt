-- What the writer's answers say, and what a file that it wrote is.
use Rattle.std.specs.Prelude.{ℕ, ◌^◌, ◌≤◌, ◌<◌, Bool, true, false, ◌||◌, List, ◌++◌, ◌≡◌, eqb, length, get_or, drop, Some}
use Rattle.kinds.specs.declared.of_files.Kind.{Kind}
use Rattle.kinds.specs.declared.of_files.Form.TheVariants.{DebitRequest}
use Rattle.tables.specs.declared.totals.Quantity.TheVariants.{Amounts}
use Rattle.kinds.specs.Kinds.{fixed_of, limit}
use Rattle.answers.specs.declared.told.Answer.{Answer}
use Rattle.answers.specs.Answers.{accepted, refused}
use Rattle.records.specs.Records.{count_of}
use Rattle.records.specs.Quantities.{quantity_of}
use Rattle.reader.specs.Reading.{read_as, read_of}
use Rattle.reader.specs.Meets.{RowsHold}
use Rattle.builder.specs.Records.{Head, body_count}
use Rattle.builder.specs.Files.{file_of}
use Rattle.writer.specs.Writing.{parts_fit, room_after}
use Rattle.kinds.specs.Kinds.{request_of}
use Rattle.writer.specs.Apart.{head_in, bodies_in}

-- every element is a byte
abbrev pub Bytes : List ℕ → Type 0
Bytes s = (i : ℕ) → i < length s → get_or s i 0 < 256

-- what is given fits: every part is as long as its item, and the bodies are whole
abbrev pub fitting : Kind → Head → List ℕ → Bool
fitting k h bodies = parts_fit h bodies (fixed_of k).item6 (fixed_of k).item7 (fixed_of k).body

-- the numbers that only the writer says of a file to be written
unfoldable pub writers_own : ℕ → Bool
writers_own n = eqb n 1 || (eqb n 2 || (eqb n 3 || eqb n 8))

-- what the writer says of what it is given
pub data Tells (k : Kind) (h : Head) (bodies : List ℕ) (room : ℕ) : Answer → Type 0 where
  -- 2: a part is not as long as its item, or the bodies are not whole
  unfit : fitting k h bodies ≡ false → Tells k h bodies room (refused 2)
  -- 3: too many bodies
  many : fitting k h bodies ≡ true → limit < body_count k bodies → Tells k h bodies room (refused 3)
  -- 8: the room is less than the file
  short : fitting k h bodies ≡ true → body_count k bodies ≤ limit → room < length (file_of k h bodies) → Tells k h bodies room (refused 8)
  -- else what the reader says of the file, which is none of these
  read : fitting k h bodies ≡ true → body_count k bodies ≤ limit → length (file_of k h bodies) ≤ room →
      writers_own (read_as k (file_of k h bodies)).number ≡ false → Tells k h bodies room (read_as k (file_of k h bodies))

-- a file that was written under a number into a room
pub record Wrote (kind : ℕ) (h : Head) (bodies room : List ℕ) : Type 0 where
  pub k : Kind
  pub named : request_of kind ≡ Some k
  -- the room holds the file, and past it what it held
  pub stands : room_after kind h bodies room ≡ file_of k h bodies ++ drop (length (file_of k h bodies)) room
  -- it is read as accepted under the same number
  pub reads : read_of kind (file_of k h bodies) ≡ accepted
  -- and is taken apart into what was given
  pub head-back : head_in k (file_of k h bodies) ≡ h
  pub bodies-back : bodies_in k (file_of k h bodies) ≡ bodies

-- a kind that is asked for by its number, and the reader's answer on the file to be written
pub record Agrees (kind : ℕ) (h : Head) (bodies : List ℕ) (a : Answer) : Type 0 where
  pub k : Kind
  pub named : request_of kind ≡ Some k
  pub says : a ≡ read_of kind (file_of k h bodies)

-- 6, which only a debit request is told: nothing else is wrong before it, and the amounts sum to more than 13 digits say
pub record TooMuch (k : Kind) (h : Head) (bodies : List ℕ) (room : ℕ) : Type 0 where
  pub fits : fitting k h bodies ≡ true
  pub few : body_count k bodies ≤ limit
  pub enough : length (file_of k h bodies) ≤ room
  -- every row of every record of the file to be written holds
  pub rows : RowsHold k (file_of k h bodies) (count_of k (file_of k h bodies))
  pub past : 10 ^ 13 ≤ quantity_of k (file_of k h bodies) Amounts

-- a number that names a debit request, of which that is so
pub record OnlyDebit (kind : ℕ) (h : Head) (bodies : List ℕ) (room : ℕ) : Type 0 where
  pub k : Kind
  pub named : request_of kind ≡ Some k
  pub debit : k.form ≡ DebitRequest
  pub much : TooMuch k h bodies room
