-- What is told of the headers, of an enrolment and of an evidence record, each said by what agrees.
-- Assumes nothing.
use Prim.Native.Nat.{ℕ, ◌+◌, ◌<◌}
use mathlib.Core.Bool.{Bool, true, false, cond, ◌&&◌}
use mathlib.Core.List.{List}
use mathlib.Core.Logic.{◌⊎◌, inl, inr, ⊎_elim}
use mathlib.Core.Path.{◌≡◌, refl, sym, ◌∙◌}
use native.Mathlib.Nat.{eq-or-lt_of_le}
use native.Mathlib.Omega.{arith}
use borrow.Author.Tests.{eqb-false}
use Rattle.laws.specs.Least.{least, none}
use Rattle.laws.specs.Part.{part, same}
use Rattle.laws.proofs.Bools.{and_left, and_right, either, clash}
use Rattle.laws.proofs.Leasts.{least-is, none_each}
use Rattle.laws.proofs.Parts.{same-equal, same_self}
use Rattle.answers.specs.declared.told.Answer.{Answer}
use Rattle.answers.specs.Answers.{accepted, refused_at}
use Rattle.answers.proofs.Refusals.{number_of}
use Rattle.kinds.specs.Kinds.{EB13}
use Rattle.records.specs.Records.{data_of}
use Rattle.evidence.specs.Blocks.{records_in}
use Rattle.consent.specs.Comparing.{long_date, is_new, belongs, headers_told, lacks_told, foreign_told}
use Rattle.consent.specs.First.{Evidenced, Asked}
use Rattle.consent.proofs.Agreed.{belongs-new, belongs-agrees, agrees-belongs}

-- two lists are equal or not
pub equal-or : (a b : List ℕ) → (a ≡ b) ⊎ (a ≡ b → ⊥)
equal-or a b = ⊎_elim (λ t. inl (same-equal a b t)) (λ f. inr (λ q. clash (rw q (same_self b)) f)) (either (same a b))

not_same : (a b : List ℕ) → (b ≡ a → ⊥) → same a b ≡ false
not_same a b ne = ⊎_elim (λ t. absurd (ne (sym (same-equal a b t)))) (λ f. f) (either (same a b))

-- the headers
module _ (e s : List ℕ) where
  pub codes-differ : (part 23 10 s ≡ part 9 10 e → ⊥) → headers_told e s ≡ refused_at 12 0 3 0x30303030
  unfolding headers_told
  codes-differ ne = rw (not_same (part 9 10 e) (part 23 10 s) ne)

  module _ (code : part 23 10 s ≡ part 9 10 e) where
    pub dates-differ : (part 15 8 s ≡ long_date (part 27 6 e) → ⊥) → headers_told e s ≡ refused_at 12 0 5 0x30303030
    unfolding headers_told
    dates-differ ne = rw (code, same_self (part 9 10 e), not_same (long_date (part 27 6 e)) (part 15 8 s) ne)

    pub headers-same : part 15 8 s ≡ long_date (part 27 6 e) → headers_told e s ≡ accepted
    unfolding headers_told
    headers-same date = rw (code, date, same_self (part 9 10 e), same_self (long_date (part 27 6 e)))

  pub same-headers : (headers_told e s).number ≡ 0 → (part 23 10 s ≡ part 9 10 e) × (part 15 8 s ≡ long_date (part 27 6 e))
  same-headers z =
      ⊎_elim
      (λ c. ⊎_elim (λ d. (c, d)) (λ ne. absurd (omega (arith, number_of (sym (dates-differ c ne)) ∙ z))) (equal-or (part 15 8 s) (long_date (part 27 6 e))))
      (λ ne. absurd (omega (arith, number_of (sym (codes-differ ne)) ∙ z)))
      (equal-or (part 23 10 s) (part 9 10 e))

-- a test that tells a refusal where it holds
told-not : (t : Bool) (a : Answer) → (a.number ≡ 0 → ⊥) → (cond t a accepted).number ≡ 0 → t ≡ false
told-not true a ne z = absurd (ne z)
told-not false a ne z = refl

told-so : (t : Bool) (a : Answer) → ((cond t a accepted).number ≡ 0 → ⊥) → t ≡ true
told-so true a ne = refl
told-so false a ne = absurd (ne refl)

-- a place where a test holds
place-of : (p : ℕ → Bool) (n : ℕ) → none p n ≡ false → (k : ℕ) × ((k < n) × (p k ≡ true))
unfolding none
place-of p n f =
    ⊎_elim (λ q. absurd (eqb-false (least p n) n f q)) (λ h. (least p n, (h, (least-is p n).holds h))) (eq-or-lt_of_le (least-is p n).within)

-- enrolment i + 1
module _ (e s : List ℕ) (i : ℕ) (h : i < data_of EB13 e) where
  unseen : none (belongs e s i) (records_in s) ≡ true → is_new e i ≡ true → Evidenced e s i → ⊥
  unseen t n x =
      clash (agrees-belongs e s i x.evidence n x.agrees) (none_each (belongs e s i) (records_in s) t x.evidence x.there)

  pub good-evidence : (lacks_told e s i).number ≡ 0 → is_new e i ≡ true → Evidenced e s i
  unfolding lacks_told
  good-evidence z n =
      let all = none (belongs e s i) (records_in s) in
      let f = told-not (is_new e i && all) (refused_at 20 (i + 1) 6 0x30303030) (λ q. omega arith) z in
      let p = place-of (belongs e s i) (records_in s) (rw n at f) in
      record { evidence = p.0; there = p.1.0; agrees = belongs-agrees e s i p.0 h p.1.0 p.1.1 }

  pub evidence-good : (is_new e i ≡ true → Evidenced e s i) → lacks_told e s i ≡ accepted
  unfolding lacks_told
  evidence-good x =
      let all = none (belongs e s i) (records_in s) in
      ⊎_elim
      (λ t. let n = and_left (is_new e i) all t in absurd (unseen (and_right (is_new e i) all t) n (x n)))
      (λ f. rw f)
      (either (is_new e i && all))

  -- it lacks its evidence
  pub record Lacking : Type 0 where
    pub new : is_new e i ≡ true
    pub lacks : Evidenced e s i → ⊥
    pub told : lacks_told e s i ≡ refused_at 20 (i + 1) 6 0x30303030

  pub lacking : ((lacks_told e s i).number ≡ 0 → ⊥) → Lacking
  unfolding lacks_told
  lacking ne =
      let all = none (belongs e s i) (records_in s) in
      let t = told-so (is_new e i && all) (refused_at 20 (i + 1) 6 0x30303030) ne in
      let n = and_left (is_new e i) all t in
      record { new = n; lacks = unseen (and_right (is_new e i) all t) n; told = rw t }

-- evidence record j + 1
module _ (e s : List ℕ) (j : ℕ) (g : j < records_in s) where
  unasked : none (λ i. belongs e s i j) (data_of EB13 e) ≡ true → Asked e s j → ⊥
  unasked t x =
      clash (agrees-belongs e s x.asker j x.new x.agrees) (none_each (λ i. belongs e s i j) (data_of EB13 e) t x.asker x.there)

  pub good-asked : (foreign_told e s j).number ≡ 0 → Asked e s j
  unfolding foreign_told
  good-asked z =
      let f = told-not (none (λ i. belongs e s i j) (data_of EB13 e)) (refused_at 21 (j + 1) 6 0x30303030) (λ q. omega arith) z in
      let p = place-of (λ i. belongs e s i j) (data_of EB13 e) f in
      record { asker = p.0; there = p.1.0; new = belongs-new e s p.0 j p.1.1; agrees = belongs-agrees e s p.0 j p.1.0 g p.1.1 }

  pub asked-good : Asked e s j → foreign_told e s j ≡ accepted
  unfolding foreign_told
  asked-good x = ⊎_elim (λ t. absurd (unasked t x)) (λ f. rw f) (either (none (λ i. belongs e s i j) (data_of EB13 e)))

  -- nobody asks for it
  pub record Foreign : Type 0 where
    pub unasked : Asked e s j → ⊥
    pub told : foreign_told e s j ≡ refused_at 21 (j + 1) 6 0x30303030

  pub foreign : ((foreign_told e s j).number ≡ 0 → ⊥) → Foreign
  unfolding foreign_told
  foreign ne =
      let t = told-so (none (λ i. belongs e s i j) (data_of EB13 e)) (refused_at 21 (j + 1) 6 0x30303030) ne in
      record { unasked = unasked t; told = rw t }
