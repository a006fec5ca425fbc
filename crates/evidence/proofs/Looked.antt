-- What reading says, stage by stage, and what it leaves in the places.
-- Assumes nothing.
use Prim.Native.Nat.{ℕ, ◌+◌, ◌≤◌, ◌<◌}
use mathlib.Core.Bool.{Bool, true}
use mathlib.Core.List.{List, ◌++◌}
use mathlib.Core.Logic.{⊎_elim}
use mathlib.Core.Path.{◌≡◌, refl, sym, ◌∙◌}
use native.Mathlib.Nat.{eq-or-lt_of_le}
use native.Mathlib.Omega.{arith}
use borrow.Author.Tests.{lt-ltb}
use lib.ListN.{length, get_or, drop, length-append}
use Rattle.laws.specs.Least.{least}
use Rattle.laws.specs.Part.{same}
use Rattle.laws.specs.Tabulate.{tabulate}
use Rattle.laws.proofs.Leasts.{least-none, least-some, some-true}
use Rattle.laws.proofs.Tabs.{tab-length, fill_start, fill-at}
use Rattle.answers.specs.declared.refusing.Refusal.{Refusal}
use Rattle.answers.specs.Answers.{refuses_at, ◌then◌}
use Rattle.answers.specs.Refusing.{told_by}
use Rattle.answers.proofs.Tellings.{bad}
use Rattle.answers.proofs.Refusals.{number_of, refuses-not, refuses-is, then-first, then-second, then-zero, all_told}
use Rattle.keys.specs.Keys.{shares_in, repeats_in}
use Rattle.kinds.specs.Kinds.{limit}
use Rattle.evidence_units.specs.Units.{items, said_at}
use Rattle.evidence.specs.Blocks.{blocks_in, length_at, next_of, start_of, records_in}
use Rattle.evidence.specs.Judged.{header_told, record_told, records_told, good_to, byte_of, unit_byte, trailer_told}
use Rattle.evidence.specs.Reading.{size_told, counts_told, key_of, repeat_told, keys_told, signed_told, read_of, good_in, places_of}
use Rattle.evidence.proofs.Walks.{blocks-enough, record-begins, records-most, block_inside}
use Rattle.evidence.proofs.Told.{block-fits, record-limit, record-block}
use Rattle.evidence.proofs.Units.{unit-said}

module _ (exempt : Bool) (s : List ℕ) where
  -- where the size or the header is refused, no record is good
  pub none-size : (r : Refusal) → told_by r ≡ size_told s → good_in exempt s ≡ 0
  unfolding good_in
  none-size r e = let ne = bad r _ e in rw (then-first (size_told s) (header_told s) ne, refuses-is (size_told s) ne)

  pub none-header : (size_told s).number ≡ 0 → (r : Refusal) → told_by r ≡ header_told s → good_in exempt s ≡ 0
  unfolding good_in
  none-header z r e = rw (then-second (size_told s) (header_told s) z, refuses-is (header_told s) (bad r _ e))

  -- where neither is, those before the first that is refused are
  pub good-records : (size_told s).number ≡ 0 → (header_told s).number ≡ 0 → good_in exempt s ≡ good_to exempt s
  unfolding good_in
  good-records z h = rw (then-second (size_told s) (header_told s) z, refuses-not (header_told s) h)

  -- and a record that is refused is told
  module _ (z : (size_told s).number ≡ 0) (h : (header_told s).number ≡ 0) where
    pub at_records : ((records_told exempt s).number ≡ 0 → ⊥) → read_of exempt s ≡ records_told exempt s
    unfolding read_of
    at_records ne = then-second (size_told s) _ z ∙ (then-second (header_told s) _ h ∙ then-first (records_told exempt s) _ ne)

  -- nothing of that and no record is: what is told is told of the trailer, the counts, the keys and the frames
  pub at_rest : (size_told s).number ≡ 0 → (header_told s).number ≡ 0 → (records_told exempt s).number ≡ 0 → read_of exempt s ≡ (trailer_told s then (counts_told s then (keys_told s then signed_told s)))
  unfolding read_of
  at_rest z h r = then-second (size_told s) _ z ∙ (then-second (header_told s) _ h ∙ then-second (records_told exempt s) _ r)

  -- no record is refused
  module _ (r : (records_told exempt s).number ≡ 0) where
    each-good : (i : ℕ) → i < records_in s → (record_told exempt s i).number ≡ 0
    unfolding records_told
    each-good = all_told (record_told exempt s) (records_in s) r

    pub all-good : good_to exempt s ≡ records_in s
    unfolding good_to refuses_at
    all-good = least-none (refuses_at (record_told exempt s)) (records_in s) (λ i l. refuses-not (record_told exempt s i) (each-good i l))

    pub records-few : records_in s ≤ limit
    records-few =
        ⊎_elim (λ e. absurd (omega (arith, number_of (sym (record-limit exempt s limit refl)) ∙ each-good limit (omega (arith, e)))))
        (λ l. omega (arith, l)) (eq-or-lt_of_le (records-most s))

    -- and the unit of each lies within the file
    pub unit-inside : 2 ≤ blocks_in s → (i : ℕ) → i < records_in s → unit_byte s i + (items + said_at s (unit_byte s i)) ≤ length s
    unfolding unit_byte byte_of next_of blocks_in
    unit-inside some i l =
        let b = start_of s i in
        let met = number_of (sym (record-block exempt s i (λ q. absurd (omega (arith, q, l, records-few))))) ∙ each-good i l in
        omega (arith, unit-said s i, blocks-enough (length_at s b), block-fits exempt s b (i + 1) met)

  -- a file that is not refused: none of its parts is, and all its records are counted
  pub read-good : (read_of exempt s).number ≡ 0 → ((size_told s).number ≡ 0) × (((header_told s).number ≡ 0) × ((records_told exempt s).number ≡ 0))
  unfolding read_of
  read-good e =
      let t = then-zero (size_told s) _ e in
      let u = then-zero (header_told s) _ t.1 in
      (t.0, (u.0, (then-zero (records_told exempt s) _ u.1).0))

  pub read_all : (read_of exempt s).number ≡ 0 → good_in exempt s ≡ records_in s
  read_all e = let g = read-good e in good-records g.0 g.1.0 ∙ all-good g.1.1

  pub read-keys : (read_of exempt s).number ≡ 0 → (keys_told s).number ≡ 0
  unfolding read_of
  read-keys e =
      let t = then-zero (size_told s) _ e in
      let u = then-zero (header_told s) _ t.1 in
      let v = then-zero (records_told exempt s) _ u.1 in
      let w = then-zero (trailer_told s) _ v.1 in
      let x = then-zero (counts_told s) _ w.1 in
      (then-zero (keys_told s) _ x.1).0

  -- what stands in the places
  pub places-none : (old : List ℕ) → good_in exempt s ≡ 0 → old ≡ places_of exempt s old
  unfolding places_of
  places-none old e = rw e (fill_start (byte_of s) old)

  pub places-filled :
      (old : List ℕ) → (size_told s).number ≡ 0 → (header_told s).number ≡ 0 →
      tabulate (byte_of s) (good_to exempt s) ++ drop (good_to exempt s) old ≡ places_of exempt s old
  unfolding places_of
  places-filled old z h = rw (good-records z h) refl

  pub place_at : (old : List ℕ) (i : ℕ) → i < good_in exempt s → get_or (places_of exempt s old) i 0 ≡ byte_of s i
  unfolding places_of
  place_at old i l = fill-at (byte_of s) old (good_in exempt s) i l

-- a list has a place for each record whose first byte is in it
pub places-long : (f : ℕ → ℕ) (n : ℕ) (rest : List ℕ) → n ≤ length (tabulate f n ++ rest)
places-long f n rest = rw length-append (omega (arith, tab-length f n))

-- every record's first block lies in the file
pub first-inside : (s : List ℕ) (i : ℕ) → i < records_in s → byte_of s i + 1024 ≤ length s
unfolding byte_of
first-inside s i l = block_inside s (start_of s i) (omega (arith, record-begins s i l))

-- no key is an earlier one's
pub keys-apart :
    (s : List ℕ) → (keys_told s).number ≡ 0 → (i j : ℕ) → i < j → j < records_in s → same (key_of s j) (key_of s i) ≡ true → ⊥
unfolding keys_told repeat_told repeats_in shares_in
keys-apart s z i j l h t =
    let found = least-some (repeats_in (key_of s)) (records_in s) j h (some-true (shares_in (key_of s) j) j i l t) in
    let seven : ◌≡◌ {A = ℕ} 7 0 = rw (lt-ltb (least (repeats_in (key_of s)) (records_in s)) (records_in s) found) at z in
    absurd (omega (arith, seven))
