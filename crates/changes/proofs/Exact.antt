-- The answer names the first thing wrong, in the order of the tests; 50 and 52 are told exactly when they should be.
-- Assumes nothing.
use Prim.Native.Nat.{ℕ, ◌+◌, ◌<◌}
use mathlib.Core.Bool.{true, false, cond, not}
use mathlib.Core.List.{List}
use mathlib.Core.Logic.{◌↔◌, ◌⊎◌, ⊎_elim, inl, inr}
use mathlib.Core.Path.{◌≡◌, refl, sym, ◌∙◌}
use native.Mathlib.Omega.{arith}
use borrow.Author.Tests.{eqb-true, eq-eqb, lt-ltb, ltb-true, ltb-false, not-true, not-false}
use lib.Dec.{ltb, eqb}
use lib.ListN.{length, get_or}
use Rattle.laws.specs.Least.{least}
use Rattle.laws.proofs.Bools.{and_left, and_right, and_both, or_cases, or_left, or_right, either, clash}
use Rattle.laws.proofs.Leasts.{least-is}
use Rattle.answers.specs.declared.told.Answer.{Answer}
use Rattle.answers.specs.Answers.{accepted, refused, refused_at, refuses, first_told, ◌then◌}
use Rattle.answers.proofs.Refusals.{number_of, refuses-zero, refuses-other, then-first, then-second, told, told-stop, so_far, all_told, told-all, First, Good}
use Rattle.kinds.specs.Kinds.{EB11}
use Rattle.tables.specs.declared.row.Row.{Row}
use Rattle.tables.specs.Rows.{blank}
use Rattle.tables.specs.Among.{is_among, Among}
use Rattle.tables.proofs.Among.{among-exactly}
use Rattle.layout.specs.Judging.{broken_at}
use Rattle.records.specs.Records.{data_of}
use Rattle.reader.specs.Reading.{read_as}
use Rattle.reader.specs.First as reader
use Rattle.reader.specs.Meets.{Meets, rows_at}
use Rattle.reader.proofs.Exact.{first-refusal, accepted-meets}
use Rattle.reader.proofs.Accepted.{meets-zero}
use Rattle.changes.specs.Halves.{changes, record_in, halves_in, other_of}
use Rattle.changes.specs.Answers.{our_codes, is_answer, is_no, says_no, apart, answer_told, answers_told}
use Rattle.changes.specs.Deciding.{has_other, lonely, split, lonely_told, split_told, answered_told, decided}
use Rattle.changes.specs.Says.{Alone, Given, Split, Paired, Replied, Tells, SomeAlone, SomeSplit, Whole}
use Rattle.changes.proofs.Found.{other-is, other_half}
use Rattle.changes.proofs.Told.{answers-many, each-told, told-each, first-51}

-- a record that is alone
module _ (s : List ℕ) (i : ℕ) (h : i < data_of EB11 s) where
  alone-is : lonely s i ≡ true → Alone s i
  unfolding lonely has_other other_of
  alone-is t =
      let n = data_of EB11 s in
      let past = ltb-false (least (halves_in s i) n) n (not-true (ltb (least (halves_in s i) n) n) (and_right (changes (record_in s i)) _ t)) in
      record {
        inside = h;
        marked = and_left (changes (record_in s i)) _ t;
        none = λ j l u. clash u ((least-is (halves_in s i) n).before j (omega (arith, past)));
      }

  is-alone : Alone s i → lonely s i ≡ true
  unfolding lonely has_other other_of
  is-alone a =
      let n = data_of EB11 s in
      ⊎_elim
      (λ t. let l = ltb-true (least (halves_in s i) n) n t in absurd (a.none (least (halves_in s i) n) l ((least-is (halves_in s i) n).holds l)))
      (λ f. and_both (changes (record_in s i)) _ a.marked (rw f))
      (either (ltb (least (halves_in s i) n) n))

  lonely-told : ((lonely_told s i).number ≡ 0 → ⊥) → (lonely_told s i ≡ refused_at 50 (i + 1) 10 0x30303030) × Alone s i
  unfolding lonely_told
  lonely-told ne = ⊎_elim (λ t. (rw t, alone-is t)) (λ f. absurd (ne (rw f))) (either (lonely s i))

  lonely-here : Alone s i → lonely_told s i ≡ refused_at 50 (i + 1) 10 0x30303030
  unfolding lonely_told
  lonely-here a = rw (is-alone a)

  lonely-zero : (Alone s i → ⊥) → (lonely_told s i).number ≡ 0
  unfolding lonely_told
  lonely-zero ne = ⊎_elim (λ t. absurd (ne (alone-is t))) (λ f. rw f) (either (lonely s i))

  lonely-not : (lonely_told s i).number ≡ 0 → Alone s i → ⊥
  unfolding lonely_told
  lonely-not z a = let x : ◌≡◌ {A = ℕ} 50 0 = rw (is-alone a) at z in omega arith

-- a yes against a no
apart-is : (a b : ℕ) → apart a b ≡ true → is_no a ≡ not (is_no b)
unfolding apart is_no
apart-is a b t = ⊎_elim (λ e. rw (e, rw e at t)) (λ f. rw (f, rw f at t)) (either (eqb a 0))

is-apart : (a b : ℕ) → is_no a ≡ not (is_no b) → apart a b ≡ true
unfolding apart is_no
is-apart a b e =
    ⊎_elim
    (λ t. rw t (not-false (not (eqb b 0)) (sym (rw t at e))))
    (λ f. rw f (not-false (eqb b 0) (not-true (not (eqb b 0)) (sym (rw f at e)))))
    (either (eqb a 0))

-- half of a change that is split
module _ (s answers : List ℕ) (m : Meets EB11 s) (i : ℕ) (h : i < data_of EB11 s) where
  split-is : split s answers i ≡ true → Split s answers i
  unfolding split has_other says_no
  split-is t =
      let there = ltb-true (other_of s i) (data_of EB11 s) (and_left (ltb (other_of s i) (data_of EB11 s)) _ t) in
      record {
        inside = h;
        other = other_of s i;
        there = there;
        change = other_half s m i there;
        apart = apart-is (get_or answers i 0) (get_or answers (other_of s i) 0) (and_right (ltb (other_of s i) (data_of EB11 s)) _ t);
      }

  is-split : Split s answers i → split s answers i ≡ true
  unfolding split has_other says_no
  is-split x =
      rw (other-is s m i x.other x.there x.change, lt-ltb x.other (data_of EB11 s) x.there)
      (is-apart (get_or answers i 0) (get_or answers x.other 0) x.apart)

  split-told : ((split_told s answers i).number ≡ 0 → ⊥) → (split_told s answers i ≡ refused_at 52 (i + 1) 10 0x30303030) × Split s answers i
  unfolding split_told
  split-told ne = ⊎_elim (λ t. (rw t, split-is t)) (λ f. absurd (ne (rw f))) (either (split s answers i))

  split-here : Split s answers i → split_told s answers i ≡ refused_at 52 (i + 1) 10 0x30303030
  unfolding split_told
  split-here x = rw (is-split x)

  split-zero : (Split s answers i → ⊥) → (split_told s answers i).number ≡ 0
  unfolding split_told
  split-zero ne = ⊎_elim (λ t. absurd (ne (split-is t))) (λ f. rw f) (either (split s answers i))

  split-not : (split_told s answers i).number ≡ 0 → Split s answers i → ⊥
  unfolding split_told
  split-not z x = let y : ◌≡◌ {A = ℕ} 52 0 = rw (is-split x) at z in omega arith

-- an answer for each record
module _ (answers : List ℕ) (n : ℕ) where
  answer-is : (a : ℕ) → is_answer a ≡ true → (a ≡ 0) ⊎ Among our_codes a
  unfolding is_answer
  answer-is a t = ⊎_elim (λ e. inl (eqb-true a 0 e)) (λ u. inr ((among-exactly our_codes a).0 u)) (or_cases (eqb a 0) (is_among our_codes a) t)

  is-answer : (a : ℕ) → ((a ≡ 0) ⊎ Among our_codes a) → is_answer a ≡ true
  unfolding is_answer
  is-answer a x =
      ⊎_elim (λ e. or_left (eqb a 0) (is_among our_codes a) (eq-eqb a 0 e)) (λ u. or_right (eqb a 0) (is_among our_codes a) ((among-exactly our_codes a).1 u)) x

  given-if : (answers_told answers n).number ≡ 0 → Given answers n
  unfolding answers_told
  given-if z =
      let many = answers-many answers n z in
      let all = all_told (answer_told answers) n (rw (eq-eqb (length answers) n many) at z) in
      record { many = many; each = λ i h. answer-is (get_or answers i 0) (each-told answers i (all i h)) }

  if-given : Given answers n → answers_told answers n ≡ accepted
  unfolding answers_told
  if-given g =
      rw (eq-eqb (length answers) n g.many)
      (told-all (answer_told answers) n (λ i h. told-each answers i (is-answer (get_or answers i 0) (g.each i h))))

  -- all that is told is 51
  only-51 : ((answers_told answers n).number ≡ 0 → ⊥) → answers_told answers n ≡ refused 51
  unfolding answers_told
  only-51 ne =
      ⊎_elim (λ t. rw t (first-51 answers n (λ z. ne (rw t z)))) (λ f. rw f) (either (eqb (length answers) n))

module _ (s answers : List ℕ) where
  -- the last stage
  says-splits : Replied s answers → Tells s answers (first_told (split_told s answers) (data_of EB11 s))
  says-splits r = ⊎_elim none found (told (split_told s answers) (data_of EB11 s))
    where
      m : Meets EB11 s
      m = r.paired.meets

      none : Good (split_told s answers) (data_of EB11 s) → Tells s answers (first_told (split_told s answers) (data_of EB11 s))
      none g = rw g.told (Tells.good r (λ i x. split-not s answers m i x.inside (g.all i x.inside) x))

      found : ((i : ℕ) × First (split_told s answers) (data_of EB11 s) i) → Tells s answers (first_told (split_told s answers) (data_of EB11 s))
      found y =
          let i = y.0 in
          let f = y.1 in
          let a = split-told s answers m i f.below f.bad in
          rw (f.told, a.0) (Tells.split i r a.1 (λ j l x. split-not s answers m j x.inside (f.before j l) x))

  -- the answers, then the last stage
  says-answers : Paired s → Tells s answers (answers_told answers (data_of EB11 s) then first_told (split_told s answers) (data_of EB11 s))
  says-answers p = ⊎_elim bad good (either (refuses (answers_told answers (data_of EB11 s))))
    where
      bad : refuses (answers_told answers (data_of EB11 s)) ≡ true → Tells s answers (answers_told answers (data_of EB11 s) then first_told (split_told s answers) (data_of EB11 s))
      bad t =
          let ne = refuses-other (answers_told answers (data_of EB11 s)) t in
          rw (then-first (answers_told answers (data_of EB11 s)) (first_told (split_told s answers) (data_of EB11 s)) ne, only-51 answers (data_of EB11 s) ne)
          (Tells.missing p (λ g. ne (number_of (if-given answers (data_of EB11 s) g))))

      good : refuses (answers_told answers (data_of EB11 s)) ≡ false → Tells s answers (answers_told answers (data_of EB11 s) then first_told (split_told s answers) (data_of EB11 s))
      good f =
          let z = refuses-zero (answers_told answers (data_of EB11 s)) f in
          rw (then-second (answers_told answers (data_of EB11 s)) (first_told (split_told s answers) (data_of EB11 s)) z)
          (says-splits (record { paired = p; given = given-if answers (data_of EB11 s) z }))

  -- the changes, then these
  says-changes : Meets EB11 s → Tells s answers (answered_told s answers)
  unfolding answered_told
  says-changes m = ⊎_elim none found (told (lonely_told s) (data_of EB11 s))
    where
      rest : Answer
      rest = answers_told answers (data_of EB11 s) then first_told (split_told s answers) (data_of EB11 s)

      none : Good (lonely_told s) (data_of EB11 s) → Tells s answers (first_told (lonely_told s) (data_of EB11 s) then rest)
      none g =
          rw (then-second (first_told (lonely_told s) (data_of EB11 s)) rest (number_of g.told))
          (says-answers (record { meets = m; halved = λ i a. lonely-not s i a.inside (g.all i a.inside) a }))

      found : ((i : ℕ) × First (lonely_told s) (data_of EB11 s) i) → Tells s answers (first_told (lonely_told s) (data_of EB11 s) then rest)
      found y =
          let i = y.0 in
          let f = y.1 in
          let a = lonely-told s i f.below f.bad in
          rw (then-first (first_told (lonely_told s) (data_of EB11 s)) rest (λ z. f.bad (number_of (sym f.told) ∙ z)), f.told, a.0)
          (Tells.alone i m a.1 (λ j l x. lonely-not s j x.inside (f.before j l) x))

  -- *First refusal*: the answer names the first thing wrong
  pub decided-tells : Tells s answers (decided s answers)
  unfolding decided
  decided-tells = ⊎_elim bad good (either (refuses (read_as EB11 s)))
    where
      bad : refuses (read_as EB11 s) ≡ true → Tells s answers (read_as EB11 s then answered_told s answers)
      bad t = let ne = refuses-other (read_as EB11 s) t in rw (then-first (read_as EB11 s) (answered_told s answers) ne) (Tells.reading ne)

      good : refuses (read_as EB11 s) ≡ false → Tells s answers (read_as EB11 s then answered_told s answers)
      good f =
          let z = refuses-zero (read_as EB11 s) f in
          rw (then-second (read_as EB11 s) (answered_told s answers) z) (says-changes (accepted-meets EB11 s z))

-- each stage, where those before it are passed
module _ (s answers : List ℕ) where
  after-reading : Meets EB11 s → decided s answers ≡ answered_told s answers
  unfolding decided
  after-reading m = then-second (read_as EB11 s) (answered_told s answers) (meets-zero EB11 s m)

  after-changes : Paired s → decided s answers ≡ (answers_told answers (data_of EB11 s) then first_told (split_told s answers) (data_of EB11 s))
  unfolding answered_told
  after-changes p =
      after-reading p.meets ∙
      then-second (first_told (lonely_told s) (data_of EB11 s)) _ (number_of (told-all (lonely_told s) (data_of EB11 s) (λ i h. lonely-zero s i h (p.halved i))))

  after-answers : Replied s answers → decided s answers ≡ first_told (split_told s answers) (data_of EB11 s)
  after-answers r =
      after-changes r.paired ∙
      then-second (answers_told answers (data_of EB11 s)) _ (number_of (if-given answers (data_of EB11 s) r.given))

  -- *Only that*: what is told so is the answer
  pub tells-only : (a : Answer) → Tells s answers a → a ≡ decided s answers
  unfolding decided answered_told
  tells-only a (Tells.reading ne) = sym (then-first (read_as EB11 s) (answered_told s answers) ne)
  tells-only a (Tells.alone i m x f) =
      let stop = told-stop (lonely_told s) i (data_of EB11 s) x.inside (so_far (lonely_told s) i (λ j l. lonely-zero s j (omega (arith, x.inside)) (f j l))) (λ z. lonely-not s i x.inside z x) ∙ lonely-here s i x.inside x in
      sym (after-reading m ∙ (then-first (first_told (lonely_told s) (data_of EB11 s)) _ (λ z. let y : ◌≡◌ {A = ℕ} 50 0 = number_of (sym stop) ∙ z in omega arith) ∙ stop))
  tells-only a (Tells.missing p g) =
      let ne : (answers_told answers (data_of EB11 s)).number ≡ 0 → ⊥ = λ z. g (given-if answers (data_of EB11 s) z) in
      sym (after-changes p ∙ (then-first (answers_told answers (data_of EB11 s)) _ ne ∙ only-51 answers (data_of EB11 s) ne))
  tells-only a (Tells.split i r x f) =
      let m = r.paired.meets in
      sym (after-answers r ∙ (told-stop (split_told s answers) i (data_of EB11 s) x.inside (so_far (split_told s answers) i (λ j l. split-zero s answers m j (omega (arith, x.inside)) (f j l))) (λ z. split-not s answers m i x.inside z x) ∙ split-here s answers m i x.inside x))
  tells-only a (Tells.good r f) =
      sym (after-answers r ∙ told-all (split_told s answers) (data_of EB11 s) (λ i h. split-zero s answers r.paired.meets i h (f i)))

-- reading says no number from 50 on
broken-small : (n : ℕ) (r : Row) → (broken_at n r).number < 50
broken-small n r = elim (eqb r.4 0x30303030) as (λ b. cond b 5 4 < 50) [ true ↦ omega arith | false ↦ omega arith ]

read_small : (s : List ℕ) (a : Answer) → reader.Says EB11 s a → a.number < 50
read_small s a (reader.Says.good m) = omega arith
read_small s a (reader.Says.short f) = omega arith
read_small s a (reader.Says.long t l) = omega arith
read_small s a (reader.Says.row i j l b c f g h) = broken-small i (get_or (rows_at EB11 s i) j blank)
read_small s a (reader.Says.total j l h b f g) = omega arith
read_small s a (reader.Says.key i l h t b r g) = omega arith

module _ (s answers : List ℕ) where
  small : (read_as EB11 s).number < 50
  small = read_small s (read_as EB11 s) (first-refusal EB11 s)

  fifty-is : (a : Answer) → Tells s answers a → a.number ≡ 50 → SomeAlone s
  fifty-is a (Tells.reading ne) e = absurd (omega (arith, small))
  fifty-is a (Tells.alone i m x f) e = record { meets = m; which = i; alone = x }
  fifty-is a (Tells.missing p g) e = absurd (omega arith)
  fifty-is a (Tells.split i r x f) e = absurd (omega arith)
  fifty-is a (Tells.good r f) e = absurd (omega arith)

  is-fifty : SomeAlone s → (a : Answer) → Tells s answers a → a.number ≡ 50
  is-fifty x a (Tells.reading ne) = absurd (ne (meets-zero EB11 s x.meets))
  is-fifty x a (Tells.alone i m y f) = refl
  is-fifty x a (Tells.missing p g) = absurd (p.halved x.which x.alone)
  is-fifty x a (Tells.split i r y f) = absurd (r.paired.halved x.which x.alone)
  is-fifty x a (Tells.good r f) = absurd (r.paired.halved x.which x.alone)

  -- *50*: exactly when a record of an accepted EB11 says "CHNG" and has no other half
  pub fifty : ((decided s answers).number ≡ 50) ↔ SomeAlone s
  fifty = (fifty-is (decided s answers) (decided-tells s answers), λ x. is-fifty x (decided s answers) (decided-tells s answers))

  fifty-two-is : (a : Answer) → Tells s answers a → a.number ≡ 52 → SomeSplit s answers
  fifty-two-is a (Tells.reading ne) e = absurd (omega (arith, small))
  fifty-two-is a (Tells.alone i m x f) e = absurd (omega arith)
  fifty-two-is a (Tells.missing p g) e = absurd (omega arith)
  fifty-two-is a (Tells.split i r x f) e = record { replied = r; which = i; split = x }
  fifty-two-is a (Tells.good r f) e = absurd (omega arith)

  is-fifty-two : SomeSplit s answers → (a : Answer) → Tells s answers a → a.number ≡ 52
  is-fifty-two x a (Tells.reading ne) = absurd (ne (meets-zero EB11 s x.replied.paired.meets))
  is-fifty-two x a (Tells.alone i m y f) = absurd (x.replied.paired.halved i y)
  is-fifty-two x a (Tells.missing p g) = absurd (g x.replied.given)
  is-fifty-two x a (Tells.split i r y f) = refl
  is-fifty-two x a (Tells.good r f) = absurd (f x.which x.split)

  -- *52*: exactly when the halves of some change have different answers, a yes against a no, and nothing before it is wrong
  pub fifty-two : ((decided s answers).number ≡ 52) ↔ SomeSplit s answers
  fifty-two = (fifty-two-is (decided s answers) (decided-tells s answers), λ x. is-fifty-two x (decided s answers) (decided-tells s answers))

  -- *Accepted*: exactly when each record has an answer, each "CHNG" its other half, and no change is split
  good-is : (a : Answer) → Tells s answers a → a.number ≡ 0 → Whole s answers
  good-is a (Tells.reading ne) e = absurd (ne e)
  good-is a (Tells.alone i m x f) e = absurd (omega arith)
  good-is a (Tells.missing p g) e = absurd (omega arith)
  good-is a (Tells.split i r x f) e = absurd (omega arith)
  good-is a (Tells.good r f) e = record { replied = r; whole = f }

  is-good : Whole s answers → (a : Answer) → Tells s answers a → a ≡ accepted
  is-good x a (Tells.reading ne) = absurd (ne (meets-zero EB11 s x.replied.paired.meets))
  is-good x a (Tells.alone i m y f) = absurd (x.replied.paired.halved i y)
  is-good x a (Tells.missing p g) = absurd (g x.replied.given)
  is-good x a (Tells.split i r y f) = absurd (x.whole i y)
  is-good x a (Tells.good r f) = refl

  pub decided-exact : (decided s answers ≡ accepted) ↔ Whole s answers
  decided-exact =
      (λ e. good-is (decided s answers) (decided-tells s answers) (number_of e), λ x. is-good x (decided s answers) (decided-tells s answers))
