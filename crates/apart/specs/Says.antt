-- What the answers of taking apart say, and what taking apart and writing make of each other.
use Rattle.std.specs.Prelude.{ℕ, ◌≤◌, ◌<◌, List, ◌++◌, ◌≡◌, length, take, drop, Some, None}
use Rattle.kinds.specs.declared.of_files.Kind.{Kind}
use Rattle.answers.specs.declared.told.Answer.{Answer}
use Rattle.answers.specs.Answers.{accepted, refused}
use Rattle.answers.specs.Storing.{storing, at_front}
use Rattle.reader.specs.Reading.{read_of}
use Rattle.builder.specs.Records.{Head, head_of}
use Rattle.builder.specs.Files.{file_of}
use Rattle.writer.specs.Writing.{write_of, room_after}
use Rattle.kinds.specs.Kinds.{request_of}
use Rattle.writer.specs.Apart.{head_in, bodies_in}
use Rattle.apart.specs.Taking.{apart_of, apart_after}

-- what is said of a file under a number, where there is room for so many bytes
pub data Tells (kind : ℕ) (s : List ℕ) (room : ℕ) : Answer → Type 0 where
  -- 1: the number names no kind that is written
  other : request_of kind ≡ None → Tells kind s room (refused 1)
  -- what the reader says, where it refuses the file
  read : (k : Kind) → request_of kind ≡ Some k → ((read_of kind s).number ≡ 0 → ⊥) → Tells kind s room (read_of kind s)
  -- 8: the room is shorter than all bodies together
  short : (k : Kind) → request_of kind ≡ Some k → read_of kind s ≡ accepted → room < length (bodies_in k s) → Tells kind s room (refused 8)
  -- 0: none of these
  good : (k : Kind) → request_of kind ≡ Some k → read_of kind s ≡ accepted → length (bodies_in k s) ≤ room → Tells kind s room accepted

-- a file that is taken apart under a number
pub record Takes (kind : ℕ) (s : List ℕ) (room : ℕ) : Type 0 where
  pub k : Kind
  pub named : request_of kind ≡ Some k
  pub reads : read_of kind s ≡ accepted
  pub fits : length (bodies_in k s) ≤ room

-- the parts of the header, each as it is handed out
abbrev pub head_taken : Kind → List ℕ → Head
head_taken k s = head_of (head_in k s).date (head_in k s).code (head_in k s).item6 (head_in k s).item7

-- the bytes that stand in the room: as many as the answer says
abbrev pub bodies_taken : ℕ → List ℕ → List ℕ → List ℕ
bodies_taken kind s room = take (apart_of kind s (length room)).size (apart_after kind s room)

-- a file that was taken apart into a room and then written again into another
pub record Rewritten (kind : ℕ) (s room other : List ℕ) : Type 0 where
  pub k : Kind
  pub named : request_of kind ≡ Some k
  pub accepts : write_of kind (head_taken k s) (bodies_taken kind s room) (length other) ≡ accepted
  -- the other room begins with the file, and holds past it what it held
  pub stands : room_after kind (head_taken k s) (bodies_taken kind s room) other ≡ s ++ drop (length s) other

-- a file that was written into a room and then taken apart into another
pub record Retaken (kind : ℕ) (h : Head) (bodies room other : List ℕ) : Type 0 where
  pub k : Kind
  pub named : request_of kind ≡ Some k
  pub stands : room_after kind h bodies room ≡ file_of k h bodies ++ drop (length (file_of k h bodies)) room
  -- it is accepted, and its bodies and the parts of its header are those that were given
  pub accepts : apart_of kind (file_of k h bodies) (length other) ≡ storing accepted bodies
  pub bodies-back : apart_after kind (file_of k h bodies) other ≡ at_front bodies other
  pub head-back : head_taken k (file_of k h bodies) ≡ h
