-- When a comparison is accepted, said with nothing of how evidence is looked up.
use Rattle.std.specs.Prelude.{ℕ, ◌+◌, ◌<◌, Bool, true, List, ◌++◌, ◌≡◌, replicate}
use Rattle.laws.specs.Part.{part}
use Rattle.answers.specs.Answers.{accepted}
use Rattle.kinds.specs.Kinds.{EB13}
use Rattle.records.specs.Records.{data_of}
use Rattle.reader.specs.Reading.{read_as}
use Rattle.evidence.specs.Blocks.{records_in}
use Rattle.evidence.specs.Judged.{byte_of}
use Rattle.evidence.specs.Reading.{read_of}
use Rattle.consent.specs.Comparing.{long_date, enrolment, is_new}

-- the evidence record that begins at a byte agrees with an enrolment: payer and account filled with spaces, the bank's three digits, the date in 20YY
pub record Agree (r s : List ℕ) (at : ℕ) : Type 0 where
  pub payer : part (at + 45) 30 s ≡ part 26 20 r ++ replicate 10 0x20
  pub bank : part (at + 75) 3 s ≡ part 46 3 r
  pub account : part (at + 78) 20 s ≡ part 53 16 r ++ replicate 4 0x20
  pub date : part (at + 98) 8 s ≡ long_date (part 19 6 r)

-- new enrolments and evidence records stand one to one: enrolment i + 1 has evidence record `evidence i` + 1
pub record Matched (e s : List ℕ) : Type 0 where
  pub evidence : ℕ → ℕ
  -- each new enrolment has one, and agrees with it
  pub there : (i : ℕ) → i < data_of EB13 e → is_new e i ≡ true → evidence i < records_in s
  pub agrees : (i : ℕ) → i < data_of EB13 e → is_new e i ≡ true → Agree (enrolment e i) s (byte_of s (evidence i))
  -- no two have the same
  pub apart : (i k : ℕ) → i < data_of EB13 e → k < data_of EB13 e → is_new e i ≡ true → is_new e k ≡ true → evidence i ≡ evidence k → i ≡ k
  -- and none is left over
  pub all : (j : ℕ) → j < records_in s → (i : ℕ) × ((i < data_of EB13 e) × ((is_new e i ≡ true) × (evidence i ≡ j)))

-- both files are good, of one institution and one day, and their records stand one to one
pub record Compared (exempt : Bool) (e s : List ℕ) : Type 0 where
  pub enrolments : read_as EB13 e ≡ accepted
  pub evidence : read_of exempt s ≡ accepted
  pub code : part 23 10 s ≡ part 9 10 e
  pub date : part 15 8 s ≡ long_date (part 27 6 e)
  pub matched : Matched e s
