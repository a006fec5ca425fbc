-- The maker of a code: by the list that it stands in, and none where it is blank.
-- Assumes nothing.
use Prim.Native.Nat.{ℕ, ◌+◌, ◌-◌, ◌≤◌, ◌<◌}
use mathlib.Core.Bool.{true, false, cond}
use mathlib.Core.List.{◌++◌, map}
use mathlib.Core.Path.{◌≡◌, refl, sym, ◌∙◌, ap}
use mathlib.Core.Logic.{◌⊎◌, ◌↔◌, ⊎_elim}
use native.Mathlib.Omega.{arith}
use borrow.Author.Tests.{eqb-true, ltb-true, ltb-false}
use lib.Dec.{ltb}
use lib.ListN.{length, get_or, length-map, get_or-map, get_or-append}
use lib.Seq.{get_or-append-add}
use Rattle.laws.specs.Least.{least, further}
use Rattle.laws.proofs.Bools.{either}
use Rattle.laws.proofs.Leasts.{least-is}
use Rattle.laws.proofs.Parts.{inside}
use Rattle.tables.specs.declared.makers.Maker.{Maker}
use Rattle.tables.specs.declared.makers.Maker.TheVariants as makers
use Rattle.tables.specs.declared.makers.Maker.TheVariants.{Bank, Centre}
use Rattle.std.specs.Prelude.{Option, Some, None}
use Rattle.tables.specs.Among.{code_is, place_among, is_among, Among}
use Rattle.tables.specs.Codes.{bank_codes, centre_codes, table_codes, is_table_code}
use Rattle.tables.specs.Makers.{maker_of, maker_number, by_centre}
use Rattle.tables.proofs.Among.{is_among_lem, among-exactly, among_none}

-- the computed test: the maker of each of the 48 codes
pub makers-of-table : map maker_of table_codes ≡ map (λ (c : ℕ). Bank) bank_codes ++ map (λ (c : ℕ). Centre) centre_codes
unfolding maker_of is_among place_among code_is least further table_codes bank_codes centre_codes
makers-of-table = refl

pub blank_none : maker_of 0x20202020 ≡ makers.None
unfolding maker_of is_among place_among code_is least further bank_codes centre_codes
blank_none = refl

pub centre-one : (m : Maker) → by_centre m ≤ 1
centre-one makers.None = omega arith
centre-one Bank = omega arith
centre-one Centre = omega arith

module _ (code : ℕ) where
  -- by the two tests
  maker-bank : is_among bank_codes code ≡ true → maker_of code ≡ Bank
  unfolding maker_of
  maker-bank t = rw t

  maker-centre : is_among bank_codes code ≡ false → is_among centre_codes code ≡ true → maker_of code ≡ Centre
  unfolding maker_of
  maker-centre f t = rw (f, t)

  maker-none : is_among bank_codes code ≡ false → is_among centre_codes code ≡ false → maker_of code ≡ makers.None
  unfolding maker_of
  maker-none f g = rw (f, g)

  -- a code has one maker
  numbered : (a b : Maker) → maker_of code ≡ a → maker_of code ≡ b → maker_number a ≡ maker_number b
  numbered a b e f = ap maker_number (sym e ∙ f)

  -- a bank's exactly when it is one of the banks' list
  pub bank-exactly : (maker_of code ≡ Bank) ↔ Among bank_codes code
  bank-exactly = (λ e. ⊎_elim (among-exactly bank_codes code).0 (λ f. absurd (other e f)) (either (is_among bank_codes code)), λ a. maker-bank (is_among_lem bank_codes code a))
    where
      other : maker_of code ≡ Bank → is_among bank_codes code ≡ false → ⊥
      other e f =
          ⊎_elim (λ t. let z = numbered Bank Centre e (maker-centre f t) in omega arith) (λ g. let z = numbered Bank makers.None e (maker-none f g) in omega arith)
          (either (is_among centre_codes code))

  -- the centre's exactly when it is one of the centre's
  listed-centre : Among centre_codes code → maker_of code ≡ Centre
  unfolding table_codes
  listed-centre a =
      let k = a.place in
      let d = maker_of 0 in
      rw (← a.is, ← get_or-append-add bank_codes centre_codes k 0, ← get_or-map maker_of table_codes (length bank_codes + k) 0, makers-of-table)
      (ap (λ (n : ℕ). get_or (map (λ (c : ℕ). Bank) bank_codes ++ map (λ (c : ℕ). Centre) centre_codes) (n + k) d) (sym (length-map bank_codes (λ (c : ℕ). Bank))) ∙
      (get_or-append-add (map (λ (c : ℕ). Bank) bank_codes) (map (λ (c : ℕ). Centre) centre_codes) k d ∙
      (inside (map (λ (c : ℕ). Centre) centre_codes) k d Centre (rw (length-map centre_codes (λ (c : ℕ). Centre)) a.inside) ∙
      get_or-map (λ (c : ℕ). Centre) centre_codes k 0)))

  pub centre-exactly : (maker_of code ≡ Centre) ↔ Among centre_codes code
  centre-exactly = (λ e. ⊎_elim (λ t. absurd (let z = numbered Centre Bank e (maker-bank t) in omega arith)) (second e) (either (is_among bank_codes code)), listed-centre)
    where
      second : maker_of code ≡ Centre → is_among bank_codes code ≡ false → Among centre_codes code
      second e f =
          ⊎_elim (among-exactly centre_codes code).0 (λ g. absurd (let z = numbered Centre makers.None e (maker-none f g) in omega arith))
          (either (is_among centre_codes code))

  -- a code of the table stands in the banks' list or, past it, in the centre's
  module _ (k : ℕ) (is : get_or table_codes k 0 ≡ code) where
    bank-half : k < 25 → Among bank_codes code
    unfolding table_codes bank_codes
    bank-half h = record { place = k; inside = h; is = sym (get_or-append bank_codes centre_codes 0 k h) ∙ is }

    centre-half : 25 ≤ k → k < 48 → Among centre_codes code
    unfolding table_codes bank_codes centre_codes
    centre-half h l =
        let past : k ≡ 25 + (k - 25) = omega arith in
        record { place = k - 25; inside = omega arith; is = sym (get_or-append-add bank_codes centre_codes (k - 25) 0) ∙ (ap (λ (n : ℕ). get_or table_codes n 0) (sym past) ∙ is) }

  -- so its place in the table says its maker
  abbrev found : ℕ
  found = place_among table_codes code

  found-is : found < 48 → get_or table_codes found 0 ≡ code
  unfolding place_among code_is table_codes bank_codes centre_codes
  found-is h = eqb-true _ code ((least-is (code_is table_codes code) 48).holds h)

  pub bank-found : found < 25 → maker_of code ≡ Bank
  bank-found h = bank-exactly.1 (bank-half found (found-is (omega arith)) h)

  pub centre-found : 25 ≤ found → found < 48 → maker_of code ≡ Centre
  centre-found h l = centre-exactly.1 (centre-half found (found-is l) h l)

  pub none_found : 48 ≤ found → maker_of code ≡ makers.None
  unfolding place_among code_is table_codes bank_codes centre_codes
  none_found h = maker-none (among_none bank_codes code (λ k l. first k l)) (among_none centre_codes code (λ k l. past k l))
    where
      nowhere : (k : ℕ) → k < 48 → code_is table_codes code k ≡ false
      nowhere k l = (least-is (code_is table_codes code) 48).before k (omega arith)

      first : (k : ℕ) → k < 25 → code_is bank_codes code k ≡ false
      first k l = rw (← get_or-append bank_codes centre_codes 0 k l) (nowhere k (omega arith))

      past : (k : ℕ) → k < 23 → code_is centre_codes code k ≡ false
      past k l = rw (← get_or-append-add bank_codes centre_codes k 0) (nowhere (25 + k) (omega arith))

  -- what `place` answers says where it was found, or that it was not
  abbrev answered : Option ℕ
  answered = cond (is_table_code code) (Some found) None

  answered-some : (p : ℕ) → answered ≡ Some p → (found ≡ p) × (found < 48)
  unfolding is_among table_codes bank_codes centre_codes
  answered-some p e =
      ⊎_elim (λ t. let s = rw t at e in (cc, ltb-true found 48 t)) (λ f. absurd (let s = rw f at e in cc)) (either (ltb found 48))

  answered-none : answered ≡ None → 48 ≤ found
  unfolding is_among table_codes bank_codes centre_codes
  answered-none e = ⊎_elim (λ t. absurd (let s = rw t at e in cc)) (λ f. ltb-false found 48 f) (either (ltb found 48))

  pub bank-placed : (p : ℕ) → answered ≡ Some p → p < 25 → maker_of code ≡ Bank
  bank-placed p e h = let s = answered-some p e in bank-found (omega (arith, s.0))

  pub centre-placed : (p : ℕ) → answered ≡ Some p → 25 ≤ p → maker_of code ≡ Centre
  centre-placed p e h = let s = answered-some p e in centre-found (omega (arith, s.0)) s.1

  pub none_placed : answered ≡ None → maker_of code ≡ makers.None
  none_placed e = none_found (answered-none e)

  -- none exactly when it is blank: of a code that is blank or in the table, as every result has one
  pub none-exactly : (is_table_code code ≡ true) ⊎ (code ≡ 0x20202020) → (maker_of code ≡ makers.None) ↔ (code ≡ 0x20202020)
  unfolding is_among table_codes bank_codes centre_codes
  none-exactly c = (λ e. ⊎_elim (λ t. absurd (made e (ltb-true found 48 t))) (λ b. b) c, λ b. rw b blank_none)
    where
      made : maker_of code ≡ makers.None → found < 48 → ⊥
      made e l =
          ⊎_elim (λ t. let z = numbered makers.None Bank e (bank-found (ltb-true found 25 t)) in omega arith)
          (λ f. let z = numbered makers.None Centre e (centre-found (ltb-false found 25 f) l) in omega arith) (either (ltb found 25))
