-- What each answer of comparing says: what is reported is the first thing wrong, in the order of comparing.
use Rattle.std.specs.Prelude.{ℕ, ◌+◌, ◌<◌, Bool, true, List, ◌≡◌}
use Rattle.laws.specs.Part.{part}
use Rattle.answers.specs.declared.told.Answer.{Answer}
use Rattle.answers.specs.Answers.{accepted, refused_at, on_side}
use Rattle.kinds.specs.Kinds.{EB13}
use Rattle.records.specs.Records.{data_of}
use Rattle.reader.specs.Reading.{read_as}
use Rattle.evidence.specs.Blocks.{records_in}
use Rattle.evidence.specs.Judged.{byte_of}
use Rattle.evidence.specs.Reading.{read_of}
use Rattle.consent.specs.Comparing.{long_date, enrolment, is_new}
use Rattle.consent.specs.Matched.{Agree, Compared}

-- some evidence record agrees with enrolment i + 1
pub record Evidenced (e s : List ℕ) (i : ℕ) : Type 0 where
  pub evidence : ℕ
  pub there : evidence < records_in s
  pub agrees : Agree (enrolment e i) s (byte_of s evidence)

-- some new enrolment agrees with evidence record j + 1
pub record Asked (e s : List ℕ) (j : ℕ) : Type 0 where
  pub asker : ℕ
  pub there : asker < data_of EB13 e
  pub new : is_new e asker ≡ true
  pub agrees : Agree (enrolment e asker) s (byte_of s j)

-- each new one of the first n enrolments has evidence; each of the first n evidence records is asked for
abbrev pub EvidencedTo : List ℕ → List ℕ → ℕ → Type 0
EvidencedTo e s n = (i : ℕ) → i < n → is_new e i ≡ true → Evidenced e s i

abbrev pub AskedTo : List ℕ → List ℕ → ℕ → Type 0
AskedTo e s n = (j : ℕ) → j < n → Asked e s j

-- both files are good
pub record BothRead (exempt : Bool) (e s : List ℕ) : Type 0 where
  pub enrolments : read_as EB13 e ≡ accepted
  pub evidence : read_of exempt s ≡ accepted

-- and of one institution and one day
pub record Ready (exempt : Bool) (e s : List ℕ) : Type 0 where
  pub read : BothRead exempt e s
  pub code : part 23 10 s ≡ part 9 10 e
  pub date : part 15 8 s ≡ long_date (part 27 6 e)

pub data Says (exempt : Bool) (e s : List ℕ) : Answer → Type 0 where
  -- 0: new enrolments and evidence stand one to one
  good : Compared exempt e s → Says exempt e s accepted
  -- side 1: the enrolments are refused by reading
  enrolments : ((read_as EB13 e).number ≡ 0 → ⊥) → Says exempt e s (on_side 1 (read_as EB13 e))
  -- side 2: the enrolments are good, and the evidence is refused by reading
  evidence : read_as EB13 e ≡ accepted → ((read_of exempt s).number ≡ 0 → ⊥) → Says exempt e s (on_side 2 (read_of exempt s))
  -- 12: the institution codes differ
  code : BothRead exempt e s → (part 23 10 s ≡ part 9 10 e → ⊥) → Says exempt e s (refused_at 12 0 3 0x30303030)
  -- 12: they are the same, and the dates differ
  date : BothRead exempt e s → part 23 10 s ≡ part 9 10 e → (part 15 8 s ≡ long_date (part 27 6 e) → ⊥) →
      Says exempt e s (refused_at 12 0 5 0x30303030)
  -- 20: enrolment i + 1 is the first new one with which no evidence agrees
  lacks : (i : ℕ) → Ready exempt e s → i < data_of EB13 e → is_new e i ≡ true → (Evidenced e s i → ⊥) → EvidencedTo e s i →
      Says exempt e s (refused_at 20 (i + 1) 6 0x30303030)
  -- 21: every new enrolment has evidence, and evidence record j + 1 is the first with which no new enrolment agrees
  foreign : (j : ℕ) → Ready exempt e s → EvidencedTo e s (data_of EB13 e) → j < records_in s → (Asked e s j → ⊥) → AskedTo e s j →
      Says exempt e s (refused_at 21 (j + 1) 6 0x30303030)
