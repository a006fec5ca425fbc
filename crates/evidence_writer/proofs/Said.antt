-- What a record of the file to be written says is what its unit says.
-- Assumes nothing.
use Prim.Native.Nat.{ℕ, ◌+◌, ◌-◌, ◌*◌, ◌≤◌}
use mathlib.Core.Bool.{Bool, true}
use mathlib.Core.List.{List, ◌++◌}
use mathlib.Core.Path.{◌≡◌, sym, ◌∙◌, ap}
use native.Mathlib.Nat.{add-zero, le_refl}
use native.Mathlib.Omega.{arith}
use lib.ListN.{length, get_or, drop, get_or-replicate}
use lib.Seq.{drop_at, drop-append-add}
use Rattle.laws.specs.Part.{part}
use Rattle.laws.proofs.Parts.{part_at, part-part}
use Rattle.laws.proofs.Pieces.{part-within, part-behind, part-both, part-first}
use Rattle.text.specs.Characters.{spaces}
use Rattle.text.proofs.Classes.{within-if, each-if}
use Rattle.numbers.specs.Numbers.{value_of}
use Rattle.evidence.specs.Blocks.{block, front, blocks_for}
use Rattle.evidence.specs.Meets.{evidence_of, Fits}
use Rattle.evidence_units.specs.Units.{items, said_at, sort_at, evidence_at}
use Rattle.evidence_builder.specs.Units.{place_of, said_by, unit_of}
use Rattle.evidence_builder.specs.Files.{blanks, record_front, record_of}
use Rattle.evidence_builder.proofs.Written.{blanks-length, front_length}
use Rattle.evidence_writer.specs.Writing.{key_of}
use Rattle.evidence_writer.specs.Given.{UnitGood}
use Rattle.evidence_writer.proofs.Built.{unit-long, record-long}

-- blanks are spaces
pub blanks-spaces : (n : ℕ) → spaces (blanks n) ≡ true
unfolding spaces
blanks-spaces n =
    each-if 0x20 0x20 (blanks n)
    (λ k h. rw (get_or-replicate {A = ℕ} n k 0x20 0 (rw blanks-length at h)) (within-if 0x20 0x20 0x20 (le_refl 0x20) (le_refl 0x20)))

-- how many blanks fill up the last block of unit i
abbrev left : List ℕ → ℕ → ℕ
left x i = blocks_for (said_by x i) * block - (front + said_by x i)

module _ (code x : List ℕ) (i : ℕ) (coded : length code ≡ 10) (inside : place_of x i + (items + said_by x i) ≤ length x) where
  abbrev rec : List ℕ
  rec = record_of code x i

  -- its unit stands behind items 1 to 5
  pub record-unit : part 45 (items + said_by x i) rec ≡ unit_of x i
  unfolding record_of
  record-unit =
      part-behind (record_front code (i + 1)) (unit_of x i ++ blanks (left x i)) 45 0 (items + said_by x i) (front_length code (i + 1) coded) ∙
      part-first (unit_of x i) (blanks (left x i)) (items + said_by x i) (unit-long x i inside)

  unit-says : (a c : ℕ) → a + c ≤ items + said_by x i → part a c (unit_of x i ++ blanks (left x i)) ≡ part (place_of x i + a) c x
  unfolding unit_of
  unit-says a c h =
      part-within (unit_of x i) (blanks (left x i)) a c (omega (arith, unit-long x i inside)) ∙
      part-part a c (place_of x i) (items + said_by x i) x (omega arith) inside

  -- so its items are those of the unit
  pub record-says : (a c : ℕ) → a + c ≤ items + said_by x i → part (45 + a) c rec ≡ part (place_of x i + a) c x
  unfolding record_of
  record-says a c h =
      part-behind (record_front code (i + 1)) (unit_of x i ++ blanks (left x i)) 45 a c (front_length code (i + 1) coded) ∙ unit-says a c h

  pub record-length : evidence_of rec ≡ said_by x i
  unfolding said_by said_at
  record-length = ap value_of (record-says 67 7 (omega arith))

  pub record-key : part 45 61 rec ≡ key_of x i
  unfolding key_of
  record-key = record-says 0 61 (omega arith) ∙ ap (λ (p : ℕ). part p 61 x) (add-zero (place_of x i))

  pub record-kind : get_or rec 106 0 ≡ sort_at x (place_of x i)
  unfolding sort_at
  record-kind =
      sym (part_at 106 1 rec 0 (le_refl 1)) ∙
      (ap (λ (s : List ℕ). get_or s 0 0) (record-says 61 1 (omega arith)) ∙
      (part_at (place_of x i + 61) 1 x 0 (le_refl 1) ∙ ap (λ (p : ℕ). get_or x p 0) (add-zero (place_of x i + 61))))

  pub record-evidence : part front (said_by x i) rec ≡ evidence_at x (place_of x i)
  unfolding evidence_at said_by
  record-evidence = record-says 74 (said_by x i) (omega arith)

  pub record-front : part 0 front rec ≡ record_front code (i + 1) ++ part (place_of x i) items x
  unfolding record_of
  record-front =
      part-both (record_front code (i + 1)) (unit_of x i ++ blanks (left x i)) 45 items (front_length code (i + 1) coded) ∙
      ap (λ (s : List ℕ). record_front code (i + 1) ++ s) (unit-says 0 items (omega arith) ∙ ap (λ (p : ℕ). part p items x) (add-zero (place_of x i)))

  -- and behind its evidence are blanks
  pub record-rest : drop (front + said_by x i) rec ≡ blanks (left x i)
  unfolding record_of
  record-rest =
      let e : front + said_by x i ≡ length (record_front code (i + 1)) + (items + said_by x i) = omega (arith, front_length code (i + 1) coded) in
      ap (λ (p : ℕ). drop p rec) e ∙
      (drop-append-add (record_front code (i + 1)) (unit_of x i ++ blanks (left x i)) (items + said_by x i) ∙
      drop_at (unit_of x i) (blanks (left x i)) (items + said_by x i) (unit-long x i inside))

-- a unit that is good makes a record that fits
pub record-fits :
    (exempt : Bool) (header code x : List ℕ) (i : ℕ) → length code ≡ 10 → UnitGood exempt header code x i → Fits exempt header (record_of code x i) (i + 1)
record-fits exempt header code x i coded u =
    let said = record-length code x i coded u.inside in
    record {
      whole = rw said (record-long code coded x i u.inside);
      rows = rw (record-front code x i coded u.inside) u.rows;
      size = rw (said, record-kind code x i coded u.inside) u.size;
      filler = rw (said, record-rest code x i coded u.inside) (blanks-spaces (left x i));
    }
