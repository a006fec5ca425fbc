-- What is told of what is given is the first, in the order of deciding, at which something is wrong.
-- Assumes nothing.
use Prim.Native.Nat.{ℕ, ◌+◌, ◌<◌}
use mathlib.Core.Bool.{Bool, true, cond, ◌&&◌}
use mathlib.Core.List.{List}
use mathlib.Core.Path.{◌≡◌, ◌∙◌}
use mathlib.Core.Logic.{⊎_elim}
use native.Mathlib.Nat.{eq-or-lt_of_le}
use native.Mathlib.Omega.{arith}
use borrow.Author.Tests.{eqb-true, eqb-false, leb-true, leb-false, eq-eqb, ne_eqb}
use lib.Dec.{eqb, leb}
use lib.ListN.{length}
use Rattle.laws.specs.Least.{least}
use Rattle.laws.proofs.Bools.{either}
use Rattle.laws.proofs.Leasts.{least-is, least-before}
use Rattle.kinds.specs.Kinds.{limit}
use Rattle.answers.specs.declared.told.Answer.{Answer}
use Rattle.answers.specs.Answers.{accepted, refused, first_told, ◌then◌}
use Rattle.answers.proofs.Refusals.{tested, number_of, then-second, told, First}
use Rattle.evidence_units.specs.Frames.{SignedIf, frame_told, frames_told}
use Rattle.evidence_units.proofs.Framed.{frame-good, good-frame, bad-frame}
use Rattle.evidence_rows.specs.Tables.{header_rows, data_rows}
use Rattle.layout.proofs.Judged.{judge-exact}
use Rattle.keys.specs.Keys.{repeats_in}
use Rattle.keys.proofs.Distinct.{distinct-if}
use Rattle.evidence.specs.Blocks.{blocks_for, most_blocks}
use Rattle.evidence.specs.Judged.{no_own, length_good}
use Rattle.evidence.specs.Meets.{RowsHold}
use Rattle.evidence.proofs.First.{Bad, then-says, test-says, rows-say}
use Rattle.evidence_units.specs.Units.{items, said_at, sort_at, evidence_at}
use Rattle.evidence_builder.specs.Units.{place_of, said_by, units_in, blocks_to}
use Rattle.evidence_builder.specs.Files.{file_of}
use Rattle.evidence_writer.specs.Writing.{parts_told, header_told, items_told, length_told, evidence_told, unit_told, record_told, records_told, key_of, keys_told, signed_told, decided, write_told}
use Rattle.evidence_writer.specs.Given.{Given}
use Rattle.evidence_writer.specs.First.{Parts, header_for, front_for, Reached, Met, There, Held, Long, Says}
use Rattle.evidence_writer.proofs.Decides.{parts-good, units-most, blocks-most, unit-good, records-good, keys-good, good-keys, keys-bad, decided-given}

module _ (exempt : Bool) (date code x : List ℕ) (room : ℕ) where
  abbrev Tells : Answer → Type 0
  Tells = Says exempt date code x room

  abbrev header : List ℕ
  header = header_for date code x

  parts-say : Bad (parts_told date code) → Tells (parts_told date code)
  unfolding parts_told
  parts-say ne = ⊎_elim dated (λ f. rw f (Says.date (eqb-false (length date) 8 f))) (either (eqb (length date) 8))
    where
      dated : eqb (length date) 8 ≡ true → Tells (cond (eqb (length date) 8 && eqb (length code) 10) accepted (refused 2))
      dated t = rw t (test-says Tells (eqb (length code) 10) (refused 2) (λ f. Says.code (eqb-true (length date) 8 t) (eqb-false (length code) 10 f)) (rw t at ne))

  header-says : Parts date code → Bad (header_told header) → Tells (header_told header)
  unfolding header_told
  header-says p = rows-say Tells header_rows header header 0 (λ j b. Says.header j p b)

  -- unit i
  evidence-says : (i : ℕ) → Long exempt date code x i → Bad (evidence_told x (place_of x i) (blocks_to x i)) → Tells (evidence_told x (place_of x i) (blocks_to x i))
  unfolding evidence_told said_by
  evidence-says i l ne = ⊎_elim inside (λ f. rw f (Says.cut i l (leb-false _ _ f))) (either (leb (place_of x i + (items + said_at x (place_of x i))) (length x)))
    where
      inside :
          leb (place_of x i + (items + said_at x (place_of x i))) (length x) ≡ true →
          Tells (cond (leb (place_of x i + (items + said_at x (place_of x i))) (length x)) (cond (leb (blocks_to x i + blocks_for (said_at x (place_of x i))) most_blocks) accepted (refused 3)) (refused 2))
      inside t =
          rw t
          (test-says Tells (leb (blocks_to x i + blocks_for (said_at x (place_of x i))) most_blocks) (refused 3)
          (λ f. Says.blocks i l (leb-true _ _ t) (leb-false _ _ f)) (rw t at ne))

  length-says : (i : ℕ) → Held exempt date code x i → Bad (length_told exempt x (place_of x i) (i + 1)) → Tells (length_told exempt x (place_of x i) (i + 1))
  unfolding length_told said_by
  length-says i h = test-says Tells (length_good exempt (sort_at x (place_of x i)) (said_at x (place_of x i))) _ (Says.size i h)

  length-good : (i : ℕ) → (length_told exempt x (place_of x i) (i + 1)).number ≡ 0 → length_good exempt (sort_at x (place_of x i)) (said_at x (place_of x i)) ≡ true
  unfolding length_told
  length-good i = tested (length_good exempt (sort_at x (place_of x i)) (said_at x (place_of x i))) _ (λ z. omega arith)

  items-say :
      (i : ℕ) → There exempt date code x i →
      Bad (items_told exempt header code x (place_of x i) (i + 1) then (length_told exempt x (place_of x i) (i + 1) then evidence_told x (place_of x i) (blocks_to x i))) →
      Tells (items_told exempt header code x (place_of x i) (i + 1) then (length_told exempt x (place_of x i) (i + 1) then evidence_told x (place_of x i) (blocks_to x i)))
  unfolding items_told said_by
  items-say i t ne =
      then-says Tells (items_told exempt header code x p (i + 1)) _
      (rows-say Tells (data_rows exempt) (front_for code x i) header (i + 1) (λ j b. Says.row i j t b))
      (λ z. let h : Held exempt date code x i = record { there = t; rows = (judge-exact no_own (data_rows exempt) (front_for code x i) header (i + 1)).0 z } in
      then-says Tells (length_told exempt x p (i + 1)) (evidence_told x p (blocks_to x i)) (length-says i h)
      (λ y. evidence-says i (record { held = h; size = length-good i y }) (λ q. ne (number_of (then-second _ _ z ∙ then-second _ _ y) ∙ q))))
    where
      p : ℕ
      p = place_of x i

  unit-says : (i : ℕ) → Met exempt date code x i → Bad (unit_told exempt header code x (place_of x i) (blocks_to x i) (i + 1)) → Tells (unit_told exempt header code x (place_of x i) (blocks_to x i) (i + 1))
  unfolding unit_told
  unit-says i m ne = ⊎_elim there (λ f. rw f (Says.short i m (leb-false _ _ f))) (either (leb (place_of x i + items) (length x)))
    where
      there : leb (place_of x i + items) (length x) ≡ true → Tells (unit_told exempt header code x (place_of x i) (blocks_to x i) (i + 1))
      there t = rw t (items-say i (record { met = m; inside = leb-true _ _ t }) (rw t at ne))

  -- the units
  module _ (p : Parts date code) (r : RowsHold header_rows header header 0) where
    records-say : Bad (records_told exempt header code x) → Tells (records_told exempt header code x)
    unfolding records_told record_told
    records-say ne = ⊎_elim (λ g. absurd (ne (number_of g.told))) found (told tells (units_in x))
      where
        tells : ℕ → Answer
        tells = record_told exempt header code x

        below : (i : ℕ) → First tells (units_in x) i → (i ≡ limit → ⊥) → i < limit
        below i f e = ⊎_elim (λ q. absurd (e q)) (λ l. l) (eq-or-lt_of_le (omega (arith, f.below, units-most x)))

        good : (i : ℕ) (f : First tells (units_in x) i) (k : ℕ) → k < i → (unit_told exempt header code x (place_of x k) (blocks_to x k) (k + 1)).number ≡ 0
        good i f k h = rw (ne_eqb k limit (λ q. absurd (omega (arith, f.below, units-most x)))) at (f.before k h)

        before : (i : ℕ) → First tells (units_in x) i → Reached exempt date code x i
        before i f = record {
          parts = p;
          header = r;
          each = λ k h. (unit-good exempt header code x k (blocks_to x k) (good i f k h)).0;
          most = blocks-most x i (λ k h. (unit-good exempt header code x k (blocks_to x k) (good i f k h)).1);
        }

        over : (i : ℕ) → First tells (units_in x) i → i ≡ limit → Tells (tells i)
        over i f e = rw (eq-eqb i limit e) (Says.many (rw e at (before i f)) (rw e at f.below))

        under : (i : ℕ) → First tells (units_in x) i → (i ≡ limit → ⊥) → Tells (tells i)
        under i f e =
            rw (ne_eqb i limit e)
            (unit-says i (record { reached = before i f; one = f.below; few = below i f e }) (rw (ne_eqb i limit e) at f.bad))

        found : ((i : ℕ) × First tells (units_in x) i) → Tells (first_told tells (units_in x))
        found q = rw q.1.told (⊎_elim (λ t. over q.0 q.1 (eqb-true q.0 limit t)) (λ n. under q.0 q.1 (eqb-false q.0 limit n)) (either (eqb q.0 limit)))

    -- all of them are good, and a key is not
    keys-say : (records_told exempt header code x).number ≡ 0 → Bad (keys_told x) → Tells (keys_told x)
    keys-say z ne =
        let g = records-good exempt header code x z in
        let all : Reached exempt date code x (units_in x) = record { parts = p; header = r; each = g.1.0; most = g.1.1 } in
        let first = least-is (repeats_in (key_of x)) (units_in x) in
        ⊎_elim
        (λ e. absurd (ne (number_of (good-keys x (distinct-if (key_of x) (units_in x) (least-before (repeats_in (key_of x)) (units_in x) e))))))
        (λ h. rw (keys-bad x h) (Says.key (least (repeats_in (key_of x)) (units_in x)) all g.0 h (first.holds h) first.before))
        (eq-or-lt_of_le first.within)

    -- no key is, and a frame is not
    signed-say : (records_told exempt header code x).number ≡ 0 → (keys_told x).number ≡ 0 → Bad (signed_told x) → Tells (signed_told x)
    unfolding signed_told frames_told
    signed-say z y ne = ⊎_elim (λ g. absurd (ne (number_of g.told))) found (told tells (units_in x))
      where
        tells : ℕ → Answer
        tells i = frame_told x (place_of x i) (i + 1)

        signed : (i : ℕ) → (tells i).number ≡ 0 → SignedIf (sort_at x (place_of x i)) (evidence_at x (place_of x i))
        signed i = frame-good x (place_of x i) (i + 1)

        found : ((i : ℕ) × First tells (units_in x) i) → Tells (first_told tells (units_in x))
        found q =
            let i = q.0 in
            let f = q.1 in
            let g = records-good exempt header code x z in
            rw (f.told, bad-frame x (place_of x i) (i + 1) f.bad)
            (Says.frame i (record { parts = p; header = r; each = g.1.0; most = g.1.1 }) g.0 (keys-good x y) f.below
            (λ m h. signed m (f.before m h)) (λ s. f.bad (number_of (good-frame x (place_of x i) (i + 1) s))))

  decided-says : Bad (decided exempt date code x) → Tells (decided exempt date code x)
  unfolding decided header_told
  decided-says ne =
      then-says Tells (parts_told date code) _ parts-say (λ a.
      let p : Parts date code = record { date-long = (parts-good date code a).0; code-long = (parts-good date code a).1 } in
      then-says Tells (header_told header) _ (header-says p) (λ b.
      let r = (judge-exact no_own header_rows header header 0).0 b in
      then-says Tells (records_told exempt header code x) _ (records-say p r) (λ c.
      then-says Tells (keys_told x) _ (keys-say p r c) (λ d.
      signed-say p r c d (λ z. ne (number_of (then-second _ _ a ∙ (then-second _ _ b ∙ (then-second _ _ c ∙ then-second _ _ d))) ∙ z))))))

  room_says : Given exempt date code x → Tells (cond (leb (length (file_of date code x)) room) accepted (refused 8))
  room_says g = ⊎_elim (λ t. rw t (Says.good g (leb-true _ _ t))) (λ f. rw f (Says.room g (leb-false _ _ f))) (either (leb (length (file_of date code x)) room))

  -- *First refusal*: the answer names the first thing that is wrong
  pub first-refusal : Says exempt date code x room (write_told exempt date code x room)
  unfolding write_told
  first-refusal = then-says Tells (decided exempt date code x) _ decided-says (λ z. room_says (decided-given exempt date code x z))
