-- The answer of comparing names the first thing wrong, in the order of comparing.
-- Assumes nothing.
use Prim.Native.Nat.{ℕ}
use mathlib.Core.Bool.{Bool, true, false}
use mathlib.Core.List.{List}
use mathlib.Core.Logic.{⊎_elim}
use mathlib.Core.Path.{◌≡◌, sym, ◌∙◌}
use native.Mathlib.Omega.{arith}
use Rattle.laws.specs.Part.{part}
use Rattle.laws.proofs.Bools.{either}
use Rattle.answers.specs.declared.told.Answer.{Answer}
use Rattle.answers.specs.Answers.{refuses, first_told, ◌then◌}
use Rattle.answers.proofs.Refusals.{number_of, refuses-zero, refuses-other, then-first, then-second, told, First, Good}
use Rattle.kinds.specs.Kinds.{EB13}
use Rattle.records.specs.Records.{data_of}
use Rattle.reader.specs.Reading.{read_as}
use Rattle.reader.proofs.Accepted.{read-zero}
use Rattle.evidence.specs.Blocks.{records_in}
use Rattle.evidence.specs.Reading.{read_of}
use Rattle.consent.specs.Comparing.{long_date, headers_told, lacks_told, foreign_told, compare_of}
use Rattle.consent.specs.First.{EvidencedTo, BothRead, Ready, Says}
use Rattle.consent.proofs.Stages.{by-enrolments, by-evidence, by-headers, by-records}
use Rattle.consent.proofs.Told.{equal-or, codes-differ, dates-differ, headers-same, good-evidence, lacking, good-asked, foreign}
use Rattle.consent.proofs.Exact.{evidence-zero, compared-if}

module _ (exempt : Bool) (e s : List ℕ) where
  -- the evidence records
  says-foreign : Ready exempt e s → EvidencedTo e s (data_of EB13 e) → Says exempt e s (first_told (foreign_told e s) (records_in s))
  says-foreign r x = ⊎_elim good bad (told (foreign_told e s) (records_in s))
    where
      good : Good (foreign_told e s) (records_in s) → Says exempt e s (first_told (foreign_told e s) (records_in s))
      good g = rw g.told (Says.good (compared-if exempt e s r x (λ j l. good-asked e s j l (g.all j l))))

      bad : ((j : ℕ) × First (foreign_told e s) (records_in s) j) → Says exempt e s (first_told (foreign_told e s) (records_in s))
      bad y =
          let j = y.0 in
          let f = y.1 in
          let a = foreign e s j f.below f.bad in
          rw (f.told, a.told)
          (Says.foreign j r x f.below a.unasked (λ k l. good-asked e s k (omega (arith, f.below)) (f.before k l)))

  -- the enrolments, then the evidence records
  says-records : Ready exempt e s → Says exempt e s (first_told (lacks_told e s) (data_of EB13 e) then first_told (foreign_told e s) (records_in s))
  says-records r = ⊎_elim good bad (told (lacks_told e s) (data_of EB13 e))
    where
      good : Good (lacks_told e s) (data_of EB13 e) → Says exempt e s (first_told (lacks_told e s) (data_of EB13 e) then first_told (foreign_told e s) (records_in s))
      good g =
          rw (then-second (first_told (lacks_told e s) (data_of EB13 e)) (first_told (foreign_told e s) (records_in s)) (number_of g.told))
          (says-foreign r (λ i h. good-evidence e s i h (g.all i h)))

      bad : ((i : ℕ) × First (lacks_told e s) (data_of EB13 e) i) → Says exempt e s (first_told (lacks_told e s) (data_of EB13 e) then first_told (foreign_told e s) (records_in s))
      bad y =
          let i = y.0 in
          let f = y.1 in
          let a = lacking e s i f.below f.bad in
          rw (then-first (first_told (lacks_told e s) (data_of EB13 e)) (first_told (foreign_told e s) (records_in s)) (λ z. f.bad (number_of (sym f.told) ∙ z)), f.told, a.told)
          (Says.lacks i r f.below a.new a.lacks (λ k l. good-evidence e s k (omega (arith, f.below)) (f.before k l)))

  -- the headers
  says-headers : BothRead exempt e s → Says exempt e s (compare_of exempt e s)
  says-headers b = ⊎_elim codes (λ ne. stops (codes-differ e s ne) (λ z. omega arith) (Says.code b ne)) (equal-or (part 23 10 s) (part 9 10 e))
    where
      p : (read_as EB13 e).number ≡ 0
      p = number_of b.enrolments

      q : (read_of exempt s).number ≡ 0
      q = number_of b.evidence

      stops : {a : Answer} → headers_told e s ≡ a → (a.number ≡ 0 → ⊥) → Says exempt e s a → Says exempt e s (compare_of exempt e s)
      stops t ne x = rw (by-headers exempt e s p q (λ z. ne (number_of (sym t) ∙ z)), t) x

      codes : part 23 10 s ≡ part 9 10 e → Says exempt e s (compare_of exempt e s)
      codes c =
          ⊎_elim
          (λ d. rw (by-records exempt e s p q (number_of (headers-same e s c d))) (says-records (record { read = b; code = c; date = d })))
          (λ ne. stops (dates-differ e s c ne) (λ z. omega arith) (Says.date b c ne))
          (equal-or (part 15 8 s) (long_date (part 27 6 e)))

  -- *First refusal*: the answer names the first thing wrong
  pub first-refusal : Says exempt e s (compare_of exempt e s)
  first-refusal = ⊎_elim enrolments read (either (refuses (read_as EB13 e)))
    where
      enrolments : refuses (read_as EB13 e) ≡ true → Says exempt e s (compare_of exempt e s)
      enrolments t = let ne = refuses-other (read_as EB13 e) t in rw (by-enrolments exempt e s ne) (Says.enrolments ne)

      read : refuses (read_as EB13 e) ≡ false → Says exempt e s (compare_of exempt e s)
      read f =
          let z = refuses-zero (read_as EB13 e) f in
          ⊎_elim
          (λ t. let ne = refuses-other (read_of exempt s) t in rw (by-evidence exempt e s z ne) (Says.evidence (read-zero EB13 e z) ne))
          (λ g. says-headers (record { enrolments = read-zero EB13 e z; evidence = evidence-zero exempt s (refuses-zero (read_of exempt s) g) }))
          (either (refuses (read_of exempt s)))
