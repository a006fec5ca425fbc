-- A record's other half has the key that is asked for it, so it is found by that key, and there is no other.
-- Assumes nothing.
use Prim.Native.Nat.{ℕ, ◌+◌, ◌*◌, ◌≤◌, ◌<◌}
use mathlib.Core.Bool.{true, false, cond, not, ◌&&◌}
use mathlib.Core.List.{List, [], ◌∷◌, append-nil}
use mathlib.Core.Logic.{⊎_elim}
use mathlib.Core.Path.{◌≡◌, refl, sym, ◌∙◌, ap}
use native.Mathlib.Nat.{le_refl}
use native.Mathlib.Omega.{arith}
use borrow.Author.Tests.{eqb-true, not-true, lt-ltb, le-ltb, ltb-true, ltb-false}
use lib.Dec.{eqb}
use lib.ListN.{length, replicate}
use lib.Seq.{drop-cons}
use Rattle.std.specs.Prelude.{Some, None}
use Rattle.std.specs.Bool.{then_some}
use Rattle.laws.specs.Least.{least}
use Rattle.laws.specs.Part.{part, same}
use Rattle.laws.specs.Stored.{stored}
use Rattle.laws.proofs.Bools.{and_left, and_right, or_cases, or_left, or_right, either, clash}
use Rattle.laws.proofs.Leasts.{least-is, least-none, least-some}
use Rattle.laws.proofs.Parts.{part_length, same-equal, same_self}
use Rattle.laws.proofs.Stores.{stored-over}
use Rattle.kinds.specs.Kinds.{EB11}
use Rattle.tables.specs.Places.{member_place, bank_place, holding_place}
use Rattle.keys.specs.Keys.{has_key_in, place_in, below}
use Rattle.keys.specs.Stands.{key_in}
use Rattle.keys.proofs.Found.{has_key, key_has, below-some, below_none}
use Rattle.layout.specs.Items.{bytes_at, application_of}
use Rattle.records.specs.Records.{record_at, count_of, data_of, key_at}
use Rattle.records.proofs.Places.{record-inside}
use Rattle.reader.specs.Keys.{spacing_of}
use Rattle.reader.specs.Meets.{Meets}
use Rattle.reader.proofs.Places.{key-place}
use Rattle.changes.specs.Halves.{changes, opposite, same_payer, moves, halves, record_in, halves_in, other_of}
use Rattle.changes.specs.Keyed.{other_kind, other_key, Keyed}
use Rattle.changes.specs.Deciding.{has_other}

-- the key is stored behind the other kind
pub key-stored : (kind : ℕ) (payer : List ℕ) → length payer ≡ 20 → stored 1 payer (replicate 21 kind) ≡ kind ∷ payer
key-stored kind payer e = stored-over 1 (kind ∷ []) (replicate 20 kind) [] payer refl (sym e) ∙ ap (λ (l : List ℕ). kind ∷ l) (append-nil payer)

-- of opposite kinds each is the other's other
opposite-kind : (a b : ℕ) → opposite a b ≡ true → b ≡ other_kind a
unfolding opposite other_kind
opposite-kind a b t =
    ⊎_elim
    (λ e. rw e (eqb-true b 0x31 (rw e at t)))
    (λ f. rw f (eqb-true b 0x33 (and_right (eqb a 0x31) (eqb b 0x33) (rw f at t))))
    (either (eqb a 0x33))

-- what two halves have in common
pub record Halves (a b : List ℕ) : Type 0 where
  pub changed : changes a ≡ true
  pub changed-too : changes b ≡ true
  pub kinds : opposite (application_of a) (application_of b) ≡ true
  pub payer : same_payer a b ≡ true
  pub moved : moves a b ≡ true

pub halves_are : (a b : List ℕ) → halves a b ≡ true → Halves a b
unfolding halves
halves_are a b t =
    let x : (changes b && (opposite (application_of a) (application_of b) && (same_payer a b && moves a b))) ≡ true = and_right (changes a) _ t in
    let y : (opposite (application_of a) (application_of b) && (same_payer a b && moves a b)) ≡ true = and_right (changes b) _ x in
    let z : (same_payer a b && moves a b) ≡ true = and_right (opposite (application_of a) (application_of b)) _ y in
    record {
      changed = and_left (changes a) _ t;
      changed-too = and_left (changes b) _ x;
      kinds = and_left (opposite (application_of a) (application_of b)) _ y;
      payer = and_left (same_payer a b) (moves a b) z;
      moved = and_right (same_payer a b) (moves a b) z;
    }

-- each half is the other's other half
opposite-turn : (a b : ℕ) → opposite a b ≡ true → opposite b a ≡ true
unfolding opposite
opposite-turn a b t =
    ⊎_elim
    (λ e. rw (eqb-true b 0x31 (rw e at t), e))
    (λ f. let x = rw f at t in rw (eqb-true b 0x33 (and_right (eqb a 0x31) (eqb b 0x33) x)) (and_left (eqb a 0x31) (eqb b 0x33) x))
    (either (eqb a 0x33))

same_turn : (a b : List ℕ) → same a b ≡ true → same b a ≡ true
same_turn a b t = rw (same-equal a b t) (same_self b)

differ-turn : (a b : List ℕ) → not (same a b) ≡ true → not (same b a) ≡ true
differ-turn a b t = ⊎_elim (λ u. absurd (clash (same_turn b a u) (not-true (same a b) t))) (λ f. rw f) (either (same b a))

pub halves-turn : (a b : List ℕ) → halves a b ≡ true → halves b a ≡ true
unfolding halves same_payer moves
halves-turn a b t =
    let x = halves_are a b t in
    rw (x.changed-too, x.changed, opposite-turn (application_of a) (application_of b) x.kinds, same_turn (bytes_at member_place a) (bytes_at member_place b) x.payer)
    (⊎_elim
    (λ d. or_left (not (same (bytes_at bank_place b) (bytes_at bank_place a))) (not (same (bytes_at holding_place b) (bytes_at holding_place a))) (differ-turn (bytes_at bank_place a) (bytes_at bank_place b) d))
    (λ d. or_right (not (same (bytes_at bank_place b) (bytes_at bank_place a))) (not (same (bytes_at holding_place b) (bytes_at holding_place a))) (differ-turn (bytes_at holding_place a) (bytes_at holding_place b) d))
    (or_cases (not (same (bytes_at bank_place a) (bytes_at bank_place b))) (not (same (bytes_at holding_place a) (bytes_at holding_place b))) x.moved))

-- a key is a kind and a payer
key-two : (rec : List ℕ) → 120 ≤ length rec → part 25 21 rec ≡ application_of rec ∷ bytes_at member_place rec
unfolding part
key-two rec h = rw (drop-cons rec 25 0 (omega arith))

-- in an accepted EB11
module _ (s : List ℕ) (good : Meets EB11 s) where
  abbrev n : ℕ
  n = data_of EB11 s

  inside : (i : ℕ) → i < n → i + 1 < count_of EB11 s
  inside i h = omega (arith, good.lengths.fewest)

  pub record-length : (i : ℕ) → i < n → length (record_in s i) ≡ 120
  unfolding record_at
  record-length i h = part_length ((i + 1) * 120) 120 s (record-inside EB11 s (i + 1) (inside i h))

  -- the other half has the key that is asked for it
  half-key : (i j : ℕ) → j < n → halves_in s i j ≡ true → key_at EB11 s j ≡ other_key (record_in s i)
  unfolding halves_in key_at other_key same_payer
  half-key i j h t =
      let x = halves_are (record_in s i) (record_in s j) t in
      key-two (record_in s j) (omega (arith, record-length j h)) ∙
      rw (opposite-kind (application_of (record_in s i)) (application_of (record_in s j)) x.kinds, same-equal (bytes_at member_place (record_in s i)) (bytes_at member_place (record_in s j)) x.payer)

  -- *One other half*: a record has at most one
  pub one-other : (i j k : ℕ) → j < n → k < n → halves_in s i j ≡ true → halves_in s i k ≡ true → j ≡ k
  one-other i j k h l t u = good.keys j k h l (half-key i j h t ∙ sym (half-key i k l u))

  -- so it is the one that is found
  pub other-is : (i j : ℕ) → j < n → halves_in s i j ≡ true → other_of s i ≡ j
  unfolding other_of
  other-is i j h t =
      let l = least-some (halves_in s i) n j h t in
      one-other i (least (halves_in s i) n) j l h ((least-is (halves_in s i) n).holds l) t

  pub other_half : (i : ℕ) → other_of s i < n → halves_in s i (other_of s i) ≡ true
  unfolding other_of
  other_half i h = (least-is (halves_in s i) n).holds h

  pub other_none : (i : ℕ) → ((j : ℕ) → j < n → halves_in s i j ≡ false) → other_of s i ≡ n
  unfolding other_of
  other_none i f = least-none (halves_in s i) n f

  -- the search by the key finds it, or something that is not it, or nothing
  module _ (i at : ℕ) (found : at ≡ place_in (key_in [] (spacing_of EB11) s) n (other_key (record_in s i))) where
    abbrev key : ℕ → List ℕ
    key = key_in [] (spacing_of EB11) s

    here : (j : ℕ) → j < n → halves_in s i j ≡ true → at ≡ j
    unfolding place_in
    here j h t =
        let e : key j ≡ other_key (record_in s i) = sym (key-place EB11 s j (inside j h)) ∙ half-key i j h t in
        let l = least-some (has_key_in key (other_key (record_in s i))) n j h (has_key key (other_key (record_in s i)) j e) in
        let at_key = key_has key (other_key (record_in s i)) (least (has_key_in key (other_key (record_in s i))) n) ((least-is (has_key_in key (other_key (record_in s i))) n).holds l) in
        found ∙ good.keys _ j l h (key-place EB11 s _ (inside _ l) ∙ (at_key ∙ (sym e ∙ sym (key-place EB11 s j (inside j h)))))

    found-other : at < n → halves_in s i at ≡ true → at ≡ other_of s i
    found-other h t = sym (other-is i at h t)

    found_none : (at < n → halves_in s i at ≡ false) → n ≡ other_of s i
    found_none f = sym (other_none i (λ j h. ⊎_elim (λ t. absurd (clash t (rw (here j h t) at (f (rw (here j h t) h))))) (λ g. g) (either (halves_in s i j))))

-- the same of n records whose keys are chained
module _ (s : List ℕ) (n : ℕ) (links : List ℕ) (k : Keyed s n links) (i at : ℕ) (found : at ≡ place_in (key_in [] (spacing_of EB11) s) n (other_key (record_in s i))) where
  pub keyed-other : at < n → halves_in s i at ≡ true → at ≡ other_of s i
  keyed-other h t = found-other s k.meets i at (rw k.all at found) (rw k.all at h) t

  pub keyed-none : (at < n → halves_in s i at ≡ false) → n ≡ other_of s i
  keyed-none f = k.all ∙ found_none s k.meets i at (rw k.all at found) (λ h. f (rw k.all h))

-- and what is found, if anything is
module _ (s : List ℕ) (n : ℕ) (links : List ℕ) (k : Keyed s n links) (i : ℕ) where
  abbrev place : ℕ
  place = place_in (key_in [] (spacing_of EB11) s) n (other_key (record_in s i))

  all-same : place ≡ place_in (key_in [] (spacing_of EB11) s) (data_of EB11 s) (other_key (record_in s i))
  all-same = rw k.all

  none-other : (place < data_of EB11 s → halves_in s i place ≡ false) → None ≡ cond (has_other s i) (Some (other_of s i)) None
  unfolding has_other
  none-other f = rw (← found_none s k.meets i place all-same f, le-ltb (data_of EB11 s) (data_of EB11 s) (le_refl _))

  pub keyed_other : (j : ℕ) → Some j ≡ below n place → then_some (halves_in s i j) j ≡ cond (has_other s i) (Some (other_of s i)) None
  unfolding has_other
  keyed_other j e = ⊎_elim other (λ f. rw f (none-other (λ h. rw (below-some n place j e).1 f))) (either (halves_in s i j))
    where
      other : halves_in s i j ≡ true → then_some (halves_in s i j) j ≡ cond (has_other s i) (Some (other_of s i)) None
      other t =
          let at = (below-some n place j e).1 in
          let h : place < data_of EB11 s = omega (arith, k.all, ltb-true place n (below-some n place j e).0) in
          rw (t, ← at) (rw (← found-other s k.meets i place all-same h (rw at t), lt-ltb place (data_of EB11 s) h))

  pub keyed_none : None ≡ below n place → None ≡ cond (has_other s i) (Some (other_of s i)) None
  keyed_none e = none-other (λ h. absurd (omega (arith, k.all, h, ltb-false place n (below_none n place e))))
