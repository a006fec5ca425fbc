-- Which evidence was found: a list that is true at each evidence record that a new enrolment asks for.
use Rattle.std.specs.Prelude.{ℕ, zero, suc, ◌+◌, ◌<◌, Bool, true, false, cond, List, ◌≡◌, ltb, get_or, set}
use Rattle.laws.specs.Least.{least}
use Rattle.answers.specs.declared.told.Answer.{Answer}
use Rattle.answers.specs.Answers.{accepted, refused_at, refuses_at}
use Rattle.keys.specs.declared.stands.Spacing.{Spacing}
use Rattle.keys.specs.Keys.{place_in}
use Rattle.keys.specs.Stands.{key_in, Inside}
use Rattle.keys.specs.Chains.{Chained}
use Rattle.kinds.specs.Kinds.{EB13}
use Rattle.records.specs.Records.{data_of}
use Rattle.evidence.specs.Blocks.{records_in}
use Rattle.evidence.specs.Judged.{byte_of}
use Rattle.evidence.specs.Reading.{key_of}
use Rattle.consent.specs.Comparing.{asked_by, enrolment, is_new, lacks_told}

-- the first evidence record that enrolment i + 1 asks for; their number where there is none
unfoldable pub found_for : List ℕ → List ℕ → ℕ → ℕ
found_for e s i = place_in (key_of s) (records_in s) (asked_by (enrolment e i))

-- the marks with that of enrolment i + 1, and with those of the first i
unfoldable pub marked_at : List ℕ → List ℕ → ℕ → List Bool → List Bool
marked_at e s i l = cond (is_new e i) (cond (ltb (found_for e s i) (records_in s)) (set l (found_for e s i) true) l) l

unfoldable pub marked_to : List ℕ → List ℕ → ℕ → List Bool → List Bool
marked_to e s zero l = l
marked_to e s (suc i) l = marked_at e s i (marked_to e s i l)

-- how many enrolments have their evidence before the first that lacks it
unfoldable pub good_to : List ℕ → List ℕ → ℕ
good_to e s = least (refuses_at (lacks_told e s)) (data_of EB13 e)

-- 21 at evidence record j + 1, where it has no mark
unfoldable pub unmarked_told : List Bool → ℕ → Answer
unmarked_told marks j = cond (get_or marks j false) accepted (refused_at 21 (j + 1) 6 0x30303030)

-- a key of an evidence record: items 6 to 9, past the record's first byte
abbrev pub key_spacing : Spacing
key_spacing = record { stride = 0; offset = 45; size = 61 }

-- the places hold the first byte of each of m evidence records, and their keys are chained
pub record Listed (s places : List ℕ) (m : ℕ) (links : List ℕ) : Type 0 where
  pub all : m ≡ records_in s
  pub holds : (i : ℕ) → i < m → get_or places i 0 ≡ byte_of s i
  pub inside : Inside places key_spacing s m
  pub chained : Chained (key_in places key_spacing s) m links
