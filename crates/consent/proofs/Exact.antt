-- A comparison is accepted exactly when new enrolments and evidence records stand one to one, and that in one way only.
-- Assumes nothing.
use Prim.Native.Nat.{ℕ, ◌<◌}
use mathlib.Core.Bool.{Bool, true}
use mathlib.Core.List.{List, ◌++◌}
use mathlib.Core.Logic.{◌↔◌}
use mathlib.Core.Path.{◌≡◌, sym, ◌∙◌}
use native.Mathlib.Omega.{arith}
use borrow.Author.Tests.{eqb-true}
use lib.ListN.{length, replicate}
use lib.Seq.{ext_get_or}
use Rattle.laws.specs.Least.{least}
use Rattle.laws.specs.Part.{part}
use Rattle.laws.proofs.Leasts.{least-is, least-some}
use Rattle.laws.proofs.Parts.{part_length, part_at, part_join}
use Rattle.answers.specs.Answers.{accepted, first_told, on_side}
use Rattle.answers.proofs.Refusals.{number_of, then-second, then-zero, all_told, told-all}
use Rattle.kinds.specs.Kinds.{EB13}
use Rattle.records.specs.Records.{data_of, key_at}
use Rattle.reader.specs.Reading.{read_as}
use Rattle.reader.proofs.Accepted.{read-zero}
use Rattle.reader.proofs.Exact.{read-exact}
use Rattle.evidence.specs.Blocks.{records_in}
use Rattle.evidence.specs.Judged.{byte_of}
use Rattle.evidence.specs.Reading.{read_of}
use Rattle.evidence.proofs.Stages.{stages-exact, read-good}
use Rattle.consent.specs.Comparing.{enrolment, is_new, belongs, headers_told, lacks_told, foreign_told, compare_of}
use Rattle.consent.specs.Matched.{Agree, Matched, Compared}
use Rattle.consent.specs.First.{EvidencedTo, AskedTo, BothRead, Ready}
use Rattle.consent.proofs.Agreed.{cut, enrolment-long, agrees-key, belongs-agrees, agrees-belongs}
use Rattle.consent.proofs.Told.{headers-same, same-headers, good-evidence, evidence-good, good-asked, asked-good}
use Rattle.consent.proofs.Stages.{by-records}

-- evidence whose answer has the number 0 is accepted
pub evidence-zero : (exempt : Bool) (s : List ℕ) → (read_of exempt s).number ≡ 0 → read_of exempt s ≡ accepted
evidence-zero exempt s z = (stages-exact exempt s).1 (read-good exempt s z)

-- *Only one evidence*: no two records of good evidence agree with one enrolment
pub one-evidence :
    (exempt : Bool) (s r : List ℕ) → read_of exempt s ≡ accepted → (j k : ℕ) → j < records_in s → k < records_in s →
    Agree r s (byte_of s j) → Agree r s (byte_of s k) → j ≡ k
one-evidence exempt s r good j k g h a b =
    ((stages-exact exempt s).0 good).keys j k g h (agrees-key r s j a ∙ sym (agrees-key r s k b))

-- *Only one enrolment*: no two new ones of good enrolments agree with one evidence record
module _ (e : List ℕ) (i k : ℕ) (h : i < data_of EB13 e) (g : k < data_of EB13 e) (n : is_new e i ≡ true) (m : is_new e k ≡ true) where
  new-long : (l : ℕ) → l < data_of EB13 e → length (part 25 1 (enrolment e l)) ≡ 1
  new-long l q = part_length 25 1 (enrolment e l) (omega (arith, enrolment-long e l q))

  kinds-same : part 25 1 (enrolment e i) ≡ part 25 1 (enrolment e k)
  unfolding is_new
  kinds-same =
      ext_get_or 0 _ _ (new-long i h ∙ sym (new-long k g))
      (λ x l.
      let z : x ≡ 0 = omega (arith, new-long i h) in
      rw (z, part_at 25 1 (enrolment e i) 0 (omega arith), part_at 25 1 (enrolment e k) 0 (omega arith))
      (eqb-true _ 0x31 n ∙ sym (eqb-true _ 0x31 m)))

  payers-same :
      part 26 20 (enrolment e i) ++ replicate 10 0x20 ≡ part 26 20 (enrolment e k) ++ replicate 10 0x20 →
      part 26 20 (enrolment e i) ≡ part 26 20 (enrolment e k)
  payers-same q =
      (cut 20 _ (replicate 10 0x20) _ (replicate 10 0x20)
      (part_length 26 20 (enrolment e i) (omega (arith, enrolment-long e i h)))
      (part_length 26 20 (enrolment e k) (omega (arith, enrolment-long e k g))) q).0

  pub only-enrolment :
      (s : List ℕ) (at : ℕ) → read_as EB13 e ≡ accepted → Agree (enrolment e i) s at → Agree (enrolment e k) s at → i ≡ k
  unfolding key_at
  only-enrolment s at good a b =
      ((read-exact EB13 e).0 good).keys i k h g
      (part_join 25 1 20 (enrolment e i) (enrolment e k) kinds-same (payers-same (sym a.payer ∙ b.payer)))

module _ (exempt : Bool) (e s : List ℕ) where
  -- in good files it is enough that each new enrolment has evidence, and that each evidence record is asked for
  module _ (good : BothRead exempt e s) (evidenced : EvidencedTo e s (data_of EB13 e)) (asked : AskedTo e s (records_in s)) where
    evidence : ℕ → ℕ
    evidence i = least (belongs e s i) (records_in s)

    there : (i : ℕ) → i < data_of EB13 e → is_new e i ≡ true → evidence i < records_in s
    unfolding evidence
    there i h n =
        let x = evidenced i h n in
        least-some (belongs e s i) (records_in s) x.evidence x.there (agrees-belongs e s i x.evidence n x.agrees)

    agrees : (i : ℕ) → i < data_of EB13 e → is_new e i ≡ true → Agree (enrolment e i) s (byte_of s (evidence i))
    unfolding evidence
    agrees i h n = belongs-agrees e s i (evidence i) h (there i h n) ((least-is (belongs e s i) (records_in s)).holds (there i h n))

    pub matched-if : Matched e s
    matched-if = record {
      evidence = evidence;
      there = there;
      agrees = agrees;
      apart = λ i k h g n m q. only-enrolment e i k h g n m s (byte_of s (evidence k)) good.enrolments (rw q at (agrees i h n)) (agrees k g m);
      all = λ j l.
          let x = asked j l in
          let i = x.asker in
          let h = x.there in
          let n = x.new in
          (i, (h, (n, one-evidence exempt s (enrolment e i) good.evidence (evidence i) j (there i h n) l (agrees i h n) x.agrees)));
    }

  pub compared-if : Ready exempt e s → EvidencedTo e s (data_of EB13 e) → AskedTo e s (records_in s) → Compared exempt e s
  compared-if r x y = record {
    enrolments = r.read.enrolments;
    evidence = r.read.evidence;
    code = r.code;
    date = r.date;
    matched = matched-if r.read x y;
  }

  -- number 0 is enough
  pub accepted-compared : (compare_of exempt e s).number ≡ 0 → Compared exempt e s
  unfolding compare_of
  accepted-compared z =
      let t = then-zero (on_side 1 (read_as EB13 e)) _ z in
      let u = then-zero (on_side 2 (read_of exempt s)) _ t.1 in
      let v = then-zero (headers_told e s) _ u.1 in
      let w = then-zero (first_told (lacks_told e s) (data_of EB13 e)) _ v.1 in
      let headers = same-headers e s v.0 in
      compared-if
      (record { read = record { enrolments = read-zero EB13 e t.0; evidence = evidence-zero exempt s u.0 }; code = headers.0; date = headers.1 })
      (λ i h. good-evidence e s i h (all_told (lacks_told e s) (data_of EB13 e) w.0 i h))
      (λ j g. good-asked e s j g (all_told (foreign_told e s) (records_in s) w.1 j g))

  compared-accepted : Compared exempt e s → compare_of exempt e s ≡ accepted
  compared-accepted c =
      by-records exempt e s (number_of c.enrolments) (number_of c.evidence) (number_of (headers-same e s c.code c.date)) ∙
      (then-second (first_told (lacks_told e s) (data_of EB13 e)) _
      (number_of (told-all (lacks_told e s) (data_of EB13 e) (λ i h. number_of (evidence-good e s i h (evidenced i h))))) ∙
      told-all (foreign_told e s) (records_in s) (λ j g. number_of (asked-good e s j g (asked j g))))
    where
      m : Matched e s
      m = c.matched

      evidenced : EvidencedTo e s (data_of EB13 e)
      evidenced i h n = record { evidence = m.evidence i; there = m.there i h n; agrees = m.agrees i h n }

      asked : AskedTo e s (records_in s)
      asked j g =
          let x = m.all j g in
          record { asker = x.0; there = x.1.0; new = x.1.1.0; agrees = rw x.1.1.1 at (m.agrees x.0 x.1.0 x.1.1.0) }

  -- *Exact*: accepted exactly when both files are good, of one institution and one day, and stand one to one
  pub compare_exact : (compare_of exempt e s ≡ accepted) ↔ Compared exempt e s
  compare_exact = (λ q. accepted-compared (number_of q), compared-accepted)

  -- no other evidence agrees with a new enrolment
  pub only-evidence :
      (c : Compared exempt e s) (i j : ℕ) → i < data_of EB13 e → is_new e i ≡ true → j < records_in s →
      Agree (enrolment e i) s (byte_of s j) → j ≡ c.matched.evidence i
  only-evidence c i j h n l a =
      one-evidence exempt s (enrolment e i) c.evidence j (c.matched.evidence i) l (c.matched.there i h n) a (c.matched.agrees i h n)
