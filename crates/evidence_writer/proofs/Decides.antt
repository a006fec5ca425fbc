-- The writer accepts exactly what is given well, whatever the order in which it decides.
-- Assumes nothing.
use Prim.Native.Nat.{ℕ, zero, suc, ◌+◌, ◌≤◌, ◌<◌}
use mathlib.Core.Bool.{Bool, true, false, cond, ◌&&◌}
use mathlib.Core.List.{List, ◌++◌}
use mathlib.Core.Path.{◌≡◌, refl, ◌∙◌}
use mathlib.Core.Logic.{◌↔◌, ⊎_elim}
use native.Mathlib.Nat.{le_refl, eq-or-lt_of_le}
use native.Mathlib.Omega.{arith}
use borrow.Author.Tests.{eqb-true, leb-true, eq-eqb, ne_eqb, le-leb}
use lib.Dec.{eqb, leb}
use lib.ListN.{length}
use Rattle.laws.specs.Least.{least}
use Rattle.laws.specs.Part.{part}
use Rattle.laws.specs.Sum.{sum}
use Rattle.laws.proofs.Bools.{and_left, and_right}
use Rattle.laws.proofs.Leasts.{least-is}
use Rattle.laws.proofs.Sums.{sum-up}
use Rattle.kinds.specs.Kinds.{limit}
use Rattle.keys.specs.Keys.{repeats_in, Distinct}
use Rattle.answers.specs.declared.told.Answer.{Answer}
use Rattle.answers.specs.Answers.{accepted, refused, refused_at}
use Rattle.answers.proofs.Refusals.{tested, number_of, then-second, then-zero, all_told, told-all}
use Rattle.evidence_rows.specs.Tables.{header_rows, data_rows}
use Rattle.layout.proofs.Judged.{judge-exact}
use Rattle.evidence.specs.Blocks.{blocks_for, most_blocks}
use Rattle.evidence.specs.Judged.{no_own, length_good}
use Rattle.evidence.proofs.Stages.{repeat-good, good-repeat, bad-repeat}
use Rattle.evidence_units.specs.Units.{items, said_at, sort_at}
use Rattle.evidence_units.proofs.Framed.{frames-good, good-frames}
use Rattle.evidence_builder.specs.Units.{place_of, said_by, done_at, units_in, blocks_to}
use Rattle.evidence_builder.specs.Files.{header_block, record_front}
use Rattle.evidence_writer.specs.Writing.{parts_told, header_told, items_told, length_told, evidence_told, unit_told, record_told, records_told, key_of, keys_told, signed_told, decided}
use Rattle.evidence_writer.specs.Given.{UnitGood, EachSigned, Given}

-- a test with a refusal where it fails, and an answer where it holds
pub passed : (t : Bool) (a b : Answer) → (b.number ≡ 0 → ⊥) → (cond t a b).number ≡ 0 → (t ≡ true) × (a.number ≡ 0)
passed true a b ne e = (refl, e)
passed false a b ne e = absurd (ne e)

-- the date and the code
pub parts-good : (date code : List ℕ) → (parts_told date code).number ≡ 0 → (length date ≡ 8) × (length code ≡ 10)
unfolding parts_told
parts-good date code e =
    let t = tested (eqb (length date) 8 && eqb (length code) 10) (refused 2) (λ z. omega arith) e in (
      eqb-true (length date) 8 (and_left (eqb (length date) 8) (eqb (length code) 10) t),
      eqb-true (length code) 10 (and_right (eqb (length date) 8) (eqb (length code) 10) t),
    )

pub good-parts : (date code : List ℕ) → length date ≡ 8 → length code ≡ 10 → parts_told date code ≡ accepted
unfolding parts_told
good-parts date code d c = rw (eq-eqb (length date) 8 d, eq-eqb (length code) 10 c)

-- there are no more units than one past the limit
pub units-most : (x : List ℕ) → units_in x ≤ limit + 1
unfolding units_in
units-most x = (least-is (done_at x) (limit + 1)).within

-- there is room for all blocks where each unit found room for its own
pub blocks-most : (x : List ℕ) (n : ℕ) → ((i : ℕ) → i < n → blocks_to x i + blocks_for (said_by x i) ≤ most_blocks) → blocks_to x n ≤ most_blocks
unfolding blocks_to sum
blocks-most x zero room = omega arith
blocks-most x (suc n) room = room n (le_refl (suc n))

module _ (exempt : Bool) (header code x : List ℕ) where
  -- one unit, with b blocks before it
  pub unit-good : (i b : ℕ) → (unit_told exempt header code x (place_of x i) b (i + 1)).number ≡ 0 → UnitGood exempt header code x i × (b + blocks_for (said_by x i) ≤ most_blocks)
  unfolding unit_told items_told length_told evidence_told said_by
  unit-good i b e =
      let p = place_of x i in
      let a = passed (leb (p + items) (length x)) _ (refused 2) (λ z. omega arith) e in
      let c = then-zero _ _ a.1 in
      let d = then-zero _ _ c.1 in
      let f = passed (leb (p + (items + said_at x p)) (length x)) _ (refused 2) (λ z. omega arith) d.1 in (
        record {
          rows = (judge-exact no_own (data_rows exempt) (record_front code (i + 1) ++ part p items x) header (i + 1)).0 c.0;
          size = tested (length_good exempt (sort_at x p) (said_at x p)) _ (λ z. omega arith) d.0;
          inside = leb-true _ _ f.0;
        },
        leb-true _ _ (tested (leb (b + blocks_for (said_at x p)) most_blocks) (refused 3) (λ z. omega arith) f.1),
      )

  pub good-unit : (i b : ℕ) → UnitGood exempt header code x i → b + blocks_for (said_by x i) ≤ most_blocks → unit_told exempt header code x (place_of x i) b (i + 1) ≡ accepted
  unfolding unit_told items_told length_told evidence_told said_by
  good-unit i b g m =
      let p = place_of x i in
      rw (le-leb (p + items) (length x) (omega (arith, g.inside)))
      (then-second _ _ ((judge-exact no_own (data_rows exempt) (record_front code (i + 1) ++ part p items x) header (i + 1)).1 g.rows) ∙
      rw (g.size, le-leb (p + (items + said_at x p)) (length x) g.inside, le-leb (b + blocks_for (said_at x p)) most_blocks m) (then-second accepted accepted refl))

  -- the units
  pub records-good :
      (records_told exempt header code x).number ≡ 0 →
      (units_in x ≤ limit) × (((i : ℕ) → i < units_in x → UnitGood exempt header code x i) × (blocks_to x (units_in x) ≤ most_blocks))
  unfolding records_told record_told
  records-good e = (few, (λ i h. (each i h).0, blocks-most x (units_in x) room))
    where
      told : (i : ℕ) → i < units_in x → (record_told exempt header code x i).number ≡ 0
      told = all_told (record_told exempt header code x) (units_in x) e

      few : units_in x ≤ limit
      few = ⊎_elim
          (λ q. absurd (let z : ◌≡◌ {A = ℕ} 3 0 = told limit (omega arith) in omega arith))
          (λ h. omega arith)
          (eq-or-lt_of_le (units-most x))

      each : (i : ℕ) → i < units_in x → UnitGood exempt header code x i × (blocks_to x i + blocks_for (said_by x i) ≤ most_blocks)
      each i h = unit-good i (blocks_to x i) (rw (ne_eqb i limit (λ q. absurd (omega (arith, few)))) at (told i h))

      room : (i : ℕ) → i < units_in x → blocks_to x i + blocks_for (said_by x i) ≤ most_blocks
      room i h = (each i h).1

  pub good-records :
      units_in x ≤ limit → ((i : ℕ) → i < units_in x → UnitGood exempt header code x i) → blocks_to x (units_in x) ≤ most_blocks →
      records_told exempt header code x ≡ accepted
  unfolding records_told record_told blocks_to
  good-records few each most =
      told-all (record_told exempt header code x) (units_in x)
      (λ i h. rw (ne_eqb i limit (λ q. absurd (omega arith)))
      (number_of (good-unit i (blocks_to x i) (each i h) (omega (arith, most, sum-up (λ j. blocks_for (said_by x j)) (units_in x) i h)))))

-- the keys
pub keys-good : (x : List ℕ) → (keys_told x).number ≡ 0 → Distinct (key_of x) (units_in x)
unfolding keys_told
keys-good x = repeat-good (key_of x) (units_in x)

pub good-keys : (x : List ℕ) → Distinct (key_of x) (units_in x) → keys_told x ≡ accepted
unfolding keys_told
good-keys x = good-repeat (key_of x) (units_in x)

pub keys-bad : (x : List ℕ) → least (repeats_in (key_of x)) (units_in x) < units_in x → keys_told x ≡ refused_at 7 (least (repeats_in (key_of x)) (units_in x) + 1) 6 0x30303030
unfolding keys_told
keys-bad x = bad-repeat (key_of x) (units_in x)

-- the frames
pub signed-good : (x : List ℕ) → (signed_told x).number ≡ 0 → EachSigned x (units_in x)
unfolding signed_told
signed-good x = frames-good x (place_of x) (units_in x)

pub good-signed : (x : List ℕ) → EachSigned x (units_in x) → signed_told x ≡ accepted
unfolding signed_told
good-signed x = good-frames x (place_of x) (units_in x)

module _ (exempt : Bool) (date code x : List ℕ) where
  -- number 0 is enough
  pub decided-given : (decided exempt date code x).number ≡ 0 → Given exempt date code x
  unfolding decided header_told
  decided-given e =
      let header = header_block date code (units_in x) in
      let a = then-zero _ _ e in
      let b = then-zero _ _ a.1 in
      let c = then-zero _ _ b.1 in
      let d = then-zero _ _ c.1 in
      let parts = parts-good date code a.0 in
      let records = records-good exempt header code x c.0 in
      record {
        date-long = parts.0;
        code-long = parts.1;
        header = (judge-exact no_own header_rows header header 0).0 b.0;
        few = records.0;
        each = records.1.0;
        most = records.1.1;
        keys = keys-good x d.0;
        signed = signed-good x d.1;
      }

  pub given-decided : Given exempt date code x → decided exempt date code x ≡ accepted
  unfolding decided header_told
  given-decided g =
      let header = header_block date code (units_in x) in
      then-second _ _ (number_of (good-parts date code g.date-long g.code-long)) ∙
      (then-second _ _ ((judge-exact no_own header_rows header header 0).1 g.header) ∙
      (then-second _ _ (number_of (good-records exempt header code x g.few g.each g.most)) ∙
      (then-second _ _ (number_of (good-keys x g.keys)) ∙ good-signed x g.signed)))

  -- *Exact*: accepted exactly when it is given so
  pub decided-exact : (decided exempt date code x ≡ accepted) ↔ Given exempt date code x
  decided-exact = (λ e. decided-given (number_of e), given-decided)
