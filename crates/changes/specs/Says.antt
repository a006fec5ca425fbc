-- What each answer to an EB11 and the caller's answers says, with nothing of how the halves are found.
use Rattle.std.specs.Prelude.{ℕ, ◌+◌, ◌<◌, true, not, List, ◌⊎◌, ◌≡◌, length, get_or}
use Rattle.answers.specs.declared.told.Answer.{Answer}
use Rattle.answers.specs.Answers.{accepted, refused, refused_at}
use Rattle.kinds.specs.Kinds.{EB11}
use Rattle.tables.specs.Among.{Among}
use Rattle.records.specs.Records.{data_of}
use Rattle.reader.specs.Reading.{read_as}
use Rattle.reader.specs.Meets.{Meets}
use Rattle.changes.specs.Halves.{changes, record_in, halves_in}
use Rattle.changes.specs.Answers.{our_codes, says_no}

-- record i + 1 says "CHNG", and no record is its other half
pub record Alone (s : List ℕ) (i : ℕ) : Type 0 where
  pub inside : i < data_of EB11 s
  pub marked : changes (record_in s i) ≡ true
  pub none : (j : ℕ) → j < data_of EB11 s → halves_in s i j ≡ true → ⊥

-- an answer for each of n records: yes, or one of the codes
pub record Given (answers : List ℕ) (n : ℕ) : Type 0 where
  pub many : length answers ≡ n
  pub each : (i : ℕ) → i < n → (get_or answers i 0 ≡ 0) ⊎ Among our_codes (get_or answers i 0)

-- record i + 1 is half of a change, and one half has a yes and the other a no
pub record Split (s answers : List ℕ) (i : ℕ) : Type 0 where
  pub inside : i < data_of EB11 s
  pub other : ℕ
  pub there : other < data_of EB11 s
  pub change : halves_in s i other ≡ true
  pub apart : says_no answers i ≡ not (says_no answers other)

-- each record that says "CHNG" has its other half
pub record Paired (s : List ℕ) : Type 0 where
  pub meets : Meets EB11 s
  pub halved : (i : ℕ) → Alone s i → ⊥

-- and each record an answer
pub record Replied (s answers : List ℕ) : Type 0 where
  pub paired : Paired s
  pub given : Given answers (data_of EB11 s)

pub data Tells (s answers : List ℕ) : Answer → Type 0 where
  -- what reading says, where it refuses the file
  reading : ((read_as EB11 s).number ≡ 0 → ⊥) → Tells s answers (read_as EB11 s)
  -- 50: record i + 1 is the first that says "CHNG" and has no other half
  alone : (i : ℕ) → Meets EB11 s → Alone s i → ((j : ℕ) → j < i → Alone s j → ⊥) → Tells s answers (refused_at 50 (i + 1) 10 0x30303030)
  -- 51: the answers are not one for each record, or one is none
  missing : Paired s → (Given answers (data_of EB11 s) → ⊥) → Tells s answers (refused 51)
  -- 52: record i + 1 is the first half of a change whose halves have different answers
  split : (i : ℕ) → Replied s answers → Split s answers i → ((j : ℕ) → j < i → Split s answers j → ⊥) →
      Tells s answers (refused_at 52 (i + 1) 10 0x30303030)
  -- 0: none of these
  good : Replied s answers → ((i : ℕ) → Split s answers i → ⊥) → Tells s answers accepted

-- 50 and 52 are told exactly when: some record is alone; some change has halves with different answers, and nothing before it is wrong
pub record SomeAlone (s : List ℕ) : Type 0 where
  pub meets : Meets EB11 s
  pub which : ℕ
  pub alone : Alone s which

pub record SomeSplit (s answers : List ℕ) : Type 0 where
  pub replied : Replied s answers
  pub which : ℕ
  pub split : Split s answers which

-- nothing is wrong
pub record Whole (s answers : List ℕ) : Type 0 where
  pub replied : Replied s answers
  pub whole : (i : ℕ) → Split s answers i → ⊥
