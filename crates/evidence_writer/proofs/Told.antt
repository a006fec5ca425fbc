-- What is told of the units, unit by unit: where a loop over them stands, and where it ends; and of all that is given, stage by stage.
-- Assumes nothing.
use Prim.Native.Nat.{ℕ, ◌+◌, ◌≤◌, ◌<◌}
use mathlib.Core.Bool.{Bool}
use mathlib.Core.List.{List}
use mathlib.Core.Path.{◌≡◌, sym, ◌∙◌}
use native.Mathlib.Omega.{arith}
use borrow.Author.Tests.{eq-eqb, ne_eqb}
use lib.ListN.{length}
use Rattle.laws.proofs.Leasts.{least_start, least-stop, least-none}
use Rattle.answers.specs.declared.refusing.Refusal.{Refusal}
use Rattle.answers.specs.declared.refusing.Refusal.TheVariants.{TooMany}
use Rattle.answers.specs.Answers.{accepted, refused, refuses_at, ◌then◌}
use Rattle.answers.specs.Refusing.{told_by}
use Rattle.answers.proofs.Refusals.{So-far, refuses-is, refuses-not, then-first, then-second, told-end, all_told}
use Rattle.answers.proofs.Tellings.{bad, good, loop-start, loop-stop, loop-more}
use Rattle.kinds.specs.Kinds.{limit}
use Rattle.evidence.specs.Blocks.{blocks_for, most_blocks}
use Rattle.evidence_units.specs.Units.{items, said_at}
use Rattle.evidence_builder.specs.Files.{header_block}
use Rattle.evidence_builder.specs.Units.{place_of, units_in, said_by, blocks_to}
use Rattle.evidence_builder.proofs.Walked.{place-first, place-more, UnderWay}
use Rattle.evidence_writer.specs.Writing.{parts_told, header_told, unit_told, record_told, records_told, good_to, keys_told, signed_told, decided}
use Rattle.evidence_writer.proofs.Decides.{unit-good}
use Rattle.evidence_writer.proofs.Units.{blocks-first, blocks_more, way-more, way-met, way_end}

-- the unit at place p lies within what is given, and its blocks, behind b, within the most
pub record Fits (x : List ℕ) (p b : ℕ) : Type 0 where
  pub inside : p + (items + said_at x p) ≤ length x
  pub most : b + blocks_for (said_at x p) ≤ most_blocks

-- where a loop over the units stands that none stopped so far: at unit i, at place p, behind b blocks
pub record Walk (exempt : Bool) (header code x : List ℕ) (i p b : ℕ) : Type 0 where
  pub within : p ≤ length x
  pub most : b ≤ most_blocks
  pub here : p ≡ place_of x i
  pub taken : b ≡ blocks_to x i
  pub under-way : UnderWay x i
  pub so-far : So-far (record_told exempt header code x) i

module _ (exempt : Bool) (header code x : List ℕ) where
  module _ (i : ℕ) where
    -- the limit's next unit is 3, every other one by what it holds
    pub record-limit : i ≡ limit → record_told exempt header code x i ≡ refused 3
    unfolding record_told
    record-limit e = rw (eq-eqb i limit e)

    pub record-unit : (i ≡ limit → ⊥) → record_told exempt header code x i ≡ unit_told exempt header code x (place_of x i) (blocks_to x i) (i + 1)
    unfolding record_told
    record-unit ne = rw (ne_eqb i limit ne)

  pub walk-first : Walk exempt header code x 0 0 0
  walk-first = record {
    within = omega arith;
    most = omega arith;
    here = sym (place-first x);
    taken = sym (blocks-first x);
    under-way = least_start _;
    so-far = loop-start _;
  }

  -- where none is refused all are counted
  pub all-good : (records_told exempt header code x).number ≡ 0 → good_to exempt header code x ≡ units_in x
  unfolding records_told good_to refuses_at
  all-good r =
      least-none (refuses_at (record_told exempt header code x)) (units_in x)
      (λ i l. refuses-not (record_told exempt header code x i) (all_told (record_told exempt header code x) (units_in x) r i l))

  module _ (i p b : ℕ) (w : Walk exempt header code x i p b) where
    -- the unit is refused: it is told, and those before it are good
    walk-refused :
        i ≤ limit → p < length x → (r : Refusal) → told_by r ≡ record_told exempt header code x i →
        (told_by r ≡ records_told exempt header code x) × (good_to exempt header code x ≡ i)
    unfolding records_told good_to refuses_at
    walk-refused l h r e =
        let told = record_told exempt header code x in
        let met = way-met x i w.under-way l (rw w.here at h) in
        (loop-stop told r i (units_in x) met w.so-far e, least-stop (refuses_at told) i (units_in x) met w.so-far (refuses-is (told i) (bad r _ e)))

    -- by what is told of it where the loop stands
    told-unit : i < limit → unit_told exempt header code x p b (i + 1) ≡ record_told exempt header code x i
    unfolding record_told
    told-unit l = rw (ne_eqb i limit (λ q. absurd (omega (arith, l, q))), w.here, w.taken)

    pub walk-stops :
        i < limit → p < length x → (r : Refusal) → told_by r ≡ unit_told exempt header code x p b (i + 1) →
        (told_by r ≡ records_told exempt header code x) × (good_to exempt header code x ≡ i)
    walk-stops l h r e = walk-refused (omega (arith, l)) h r (e ∙ told-unit l)

    -- or there is one more than the limit
    pub walk-past : i ≡ limit → p < length x → (refused 3 ≡ records_told exempt header code x) × (good_to exempt header code x ≡ i)
    unfolding record_told
    walk-past e h = walk-refused (omega (arith, e)) h TooMany (rw (eq-eqb i limit e))

    -- it is good, so it fits
    pub walk-fits : accepted ≡ unit_told exempt header code x p b (i + 1) → Fits x p b
    unfolding said_by
    walk-fits e =
        let g = unit-good exempt header code x i b (rw w.here at (good _ e)) in
        rw w.here (record { inside = g.0.inside; most = g.1 })

    pub walk-more :
        i < limit → p < length x → accepted ≡ unit_told exempt header code x p b (i + 1) →
        Walk exempt header code x (i + 1) (p + (items + said_at x p)) (b + blocks_for (said_at x p))
    unfolding said_by
    walk-more l h e =
        let f = walk-fits e in
        record {
          within = f.inside;
          most = f.most;
          here = rw (place-more x i, w.here);
          taken = rw (blocks_more x i, w.here, w.taken);
          under-way = way-more x i w.under-way (rw w.here at h);
          so-far = loop-more (record_told exempt header code x) i w.so-far (e ∙ told-unit l);
        }

    -- there is none more
    pub walk-ends : i ≤ limit → length x ≤ p → (accepted ≡ records_told exempt header code x) × (good_to exempt header code x ≡ i)
    unfolding records_told good_to
    walk-ends l h =
        let n = way_end x i w.under-way l (rw w.here at h) in
        rw n (sym (told-end (record_told exempt header code x) i w.so-far), w.so-far)

-- everything but the room, stage by stage
module _ (exempt : Bool) (date code x : List ℕ) where
  abbrev Header : List ℕ
  Header = header_block date code (units_in x)

  pub at-parts : ((parts_told date code).number ≡ 0 → ⊥) → decided exempt date code x ≡ parts_told date code
  unfolding decided
  at-parts ne = then-first (parts_told date code) _ ne

  pub at-header : (parts_told date code).number ≡ 0 → ((header_told Header).number ≡ 0 → ⊥) → decided exempt date code x ≡ header_told Header
  unfolding decided
  at-header z ne = then-second (parts_told date code) _ z ∙ then-first (header_told Header) _ ne

-- a date, a code and a header that are good: what is told is told of the units, their keys and their frames
pub at-units :
    (exempt : Bool) (date code x : List ℕ) → (parts_told date code).number ≡ 0 → (header_told (header_block date code (units_in x))).number ≡ 0 →
    decided exempt date code x ≡ (records_told exempt (header_block date code (units_in x)) code x then (keys_told x then signed_told x))
unfolding decided
at-units exempt date code x z h = then-second (parts_told date code) _ z ∙ then-second (header_told (header_block date code (units_in x))) _ h
