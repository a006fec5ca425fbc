-- The laws of passbook text: what a setting says of each byte and back, that the three forms exclude each other, and that each meets
-- the wider rule, bytes hex 20 or above.
-- Assumes nothing.
use Prim.Native.Nat.{ℕ, zero, suc, ◌+◌, ◌-◌, ◌*◌, ◌≤◌, ◌<◌}
use mathlib.Core.Bool.{Bool, true, false, cond, ◌&&◌, ◌||◌}
use mathlib.Core.List.{List, [], ◌∷◌}
use mathlib.Core.Logic.{◌↔◌, ⊎_elim}
use mathlib.Core.Path.{◌≡◌, refl, ap, sym, ◌∙◌}
use native.Mathlib.Nat.{le_of_suc-le-suc, not-suc-le-zero}
use native.Mathlib.Omega.{arith}
use borrow.Author.Tests.{eqb-true, eq-eqb, ltb-true, ltb-false}
use lib.Dec.{eqb, ltb}
use lib.ListN.{length, get_or, drop, length-drop}
use lib.Seq.{get_or-drop}
use Rattle.laws.specs.Part.{part, begins}
use Rattle.laws.proofs.Bools.{and_left, and_right, either, clash, or_cases, or_left, or_right}
use Rattle.laws.proofs.Parts.{part_length, part_at, same-equal, same_self}
use Rattle.text.specs.declared.characters.Set.TheVariants.{OneByte}
use Rattle.text.specs.Characters.{within, letter, takes, each, two_byte, one_byte}
use Rattle.text.specs.Passbook.{setting, two_byte_form, one_byte_form, mixed_with, mixed_form, passbook_form, forms_of, SetAs}
use Rattle.text.proofs.Classes.{within_low, within-high, within-if, all-at, all-if, each_at, each-if}

-- a run of bytes inside the wider rule, and a one-byte character
run-wide : (low high b : ℕ) → 0x20 ≤ low → high ≤ 0xFF → within low high b ≡ true → within 0x20 0xFF b ≡ true
run-wide low high b l h w = within-if 0x20 0xFF b (omega (arith, l, within_low low high b w)) (omega (arith, h, within-high low high b w))

character-wide : (b : ℕ) → takes OneByte b ≡ true → within 0x20 0xFF b ≡ true
unfolding takes letter
character-wide b t = ⊎_elim letters others (or_cases (letter b) (within 0x30 0x39 b || eqb b 0x20) t)
  where
    letters : letter b ≡ true → within 0x20 0xFF b ≡ true
    letters l =
        ⊎_elim (run-wide 0x41 0x5A b (omega arith) (omega arith)) (run-wide 0x61 0x7A b (omega arith) (omega arith))
        (or_cases (within 0x41 0x5A b) (within 0x61 0x7A b) l)

    others : (within 0x30 0x39 b || eqb b 0x20) ≡ true → within 0x20 0xFF b ≡ true
    others r =
        ⊎_elim (run-wide 0x30 0x39 b (omega arith) (omega arith))
        (λ e. let f = eqb-true b 0x20 e in within-if 0x20 0xFF b (omega (arith, f)) (omega (arith, f)))
        (or_cases (within 0x30 0x39 b) (eqb b 0x20) r)

module _ (mark : List ℕ) (n m : ℕ) (s : List ℕ) where
  -- a setting says this of its bytes, and these bytes are the setting
  pub setting-says : setting mark n m s ≡ true → SetAs mark n m s
  unfolding setting begins two_byte one_byte
  setting-says t = record { long = long; marked = sym (same-equal mark (part 0 (length mark) s) (and_left _ _ rest)); two = two; one = one }
    where
      long : length s ≡ length mark + 2 * n + m
      long = eqb-true _ _ (and_left _ _ t)

      rest : (begins mark s && (two_byte (part (length mark) (2 * n) s) && one_byte (drop (length mark + 2 * n) s))) ≡ true
      rest = and_right (eqb (length s) (length mark + 2 * n + m)) _ t

      characters : (two_byte (part (length mark) (2 * n) s) && one_byte (drop (length mark + 2 * n) s)) ≡ true
      characters = and_right (begins mark s) _ rest

      two : (i : ℕ) → i < 2 * n → within 0xA1 0xFE (get_or s (length mark + i) 0) ≡ true
      two i h =
          rw (← part_at (length mark) (2 * n) s i h)
          (each_at 0xA1 0xFE (part (length mark) (2 * n) s) (and_left _ _ characters) i (rw (part_length (length mark) (2 * n) s (omega (arith, long))) h))

      one : (i : ℕ) → i < m → takes OneByte (get_or s (length mark + 2 * n + i) 0) ≡ true
      one i h =
          rw (← get_or-drop (length mark + 2 * n) s i 0)
          (all-at OneByte (drop (length mark + 2 * n) s) (and_right (two_byte (part (length mark) (2 * n) s)) _ characters) i (rw length-drop (omega (arith, long))))

  pub says-setting : SetAs mark n m s → setting mark n m s ≡ true
  unfolding setting begins two_byte one_byte
  says-setting f =
      rw (eq-eqb _ _ f.long, f.marked, same_self mark, each-if 0xA1 0xFE (part (length mark) (2 * n) s) two)
      (all-if OneByte (drop (length mark + 2 * n) s) one)
    where
      size : length (part (length mark) (2 * n) s) ≡ 2 * n
      size = part_length (length mark) (2 * n) s (omega (arith, f.long))

      two : (i : ℕ) → i < length (part (length mark) (2 * n) s) → within 0xA1 0xFE (get_or (part (length mark) (2 * n) s) i 0) ≡ true
      two i h = let l : i < 2 * n = omega (arith, size) in rw (part_at (length mark) (2 * n) s i l) (f.two i l)

      one : (i : ℕ) → i < length (drop (length mark + 2 * n) s) → takes OneByte (get_or (drop (length mark + 2 * n) s) i 0) ≡ true
      one i h = rw (get_or-drop (length mark + 2 * n) s i 0) (f.one i (omega (arith, f.long, length-drop (length mark + 2 * n) s)))

  pub setting-exact : (setting mark n m s ≡ true) ↔ SetAs mark n m s
  setting-exact = (setting-says, says-setting)

-- a byte "2" to "5" is the digit of a number from 2 to 5
pub digit-said : (b : ℕ) → within 0x32 0x35 b ≡ within 2 5 (b - 0x30)
digit-said b = ⊎_elim said (λ f. f ∙ sym (unsaid f)) (either (within 0x32 0x35 b))
  where
    said : within 0x32 0x35 b ≡ true → within 0x32 0x35 b ≡ within 2 5 (b - 0x30)
    said t =
        t ∙ sym (within-if 2 5 (b - 0x30) (omega (arith, within_low 0x32 0x35 b t)) (omega (arith, within-high 0x32 0x35 b t)))

    unsaid : within 0x32 0x35 b ≡ false → within 2 5 (b - 0x30) ≡ false
    unsaid f =
        ⊎_elim
        (λ t. absurd (clash (within-if 0x32 0x35 b (omega (arith, within_low 2 5 (b - 0x30) t)) (omega (arith, within-high 2 5 (b - 0x30) t))) f))
        (λ e. e) (either (within 2 5 (b - 0x30)))

pub digit-again : (b : ℕ) → within 0x32 0x35 b ≡ true → 0x30 + (b - 0x30) ≡ b
digit-again b t = omega (arith, within_low 0x32 0x35 b t)

-- every byte of a setting is one of the wider rule, where those of its mark are
setting-wide :
    (mark : List ℕ) (n m : ℕ) (s : List ℕ) → ((k : ℕ) → k < length mark → within 0x20 0xFF (get_or mark k 0) ≡ true) →
    setting mark n m s ≡ true → each 0x20 0xFF s ≡ true
setting-wide mark n m s w t = each-if 0x20 0xFF s byte
  where
    says : SetAs mark n m s
    says = setting-says mark n m s t

    in-mark : (k : ℕ) → k < length mark → within 0x20 0xFF (get_or s k 0) ≡ true
    in-mark k h =
        let there : get_or s k 0 ≡ get_or mark k 0 = ap (λ (i : ℕ). get_or s i 0) (omega arith) ∙ (sym (part_at 0 (length mark) s k h) ∙ ap (λ (x : List ℕ). get_or x k 0) says.marked) in
        rw there (w k h)

    in_two : (k i : ℕ) → length mark + i ≡ k → i < 2 * n → within 0x20 0xFF (get_or s k 0) ≡ true
    in_two k i e h = run-wide 0xA1 0xFE (get_or s k 0) (omega arith) (omega arith) (rw (← e) (says.two i h))

    in_one : (k i : ℕ) → length mark + 2 * n + i ≡ k → i < m → within 0x20 0xFF (get_or s k 0) ≡ true
    in_one k i e h = character-wide (get_or s k 0) (rw (← e) (says.one i h))

    past-mark : (k : ℕ) → k < length s → length mark ≤ k → within 0x20 0xFF (get_or s k 0) ≡ true
    past-mark k h l =
        ⊎_elim (λ t. in_two k (k - length mark) (omega arith) (omega (arith, ltb-true k (length mark + 2 * n) t)))
        (λ f. in_one k (k - (length mark + 2 * n)) (omega (arith, ltb-false k (length mark + 2 * n) f)) (omega (arith, says.long, ltb-false k (length mark + 2 * n) f)))
        (either (ltb k (length mark + 2 * n)))

    byte : (k : ℕ) → k < length s → within 0x20 0xFF (get_or s k 0) ≡ true
    byte k h =
        ⊎_elim (λ t. in-mark k (ltb-true k (length mark) t)) (λ f. past-mark k h (ltb-false k (length mark) f))
        (either (ltb k (length mark)))

-- the first byte tells the forms apart: hex A1 to FE, "0", "A"
pub two-first : (s : List ℕ) → two_byte_form s ≡ true → 0xA1 ≤ get_or s 0 0
unfolding two_byte_form
two-first s t = within_low 0xA1 0xFE (get_or s 0 0) ((setting-says [] 8 0 s t).two 0 (omega arith))

marked-first : (b c n m : ℕ) (s : List ℕ) → setting (b ∷ c ∷ []) n m s ≡ true → (get_or s 0 0 ≡ b) × (get_or s 1 0 ≡ c)
marked-first b c n m s t = (
  sym (part_at 0 2 s 0 (omega arith)) ∙ ap (λ (x : List ℕ). get_or x 0 0) marked,
  sym (part_at 0 2 s 1 (omega arith)) ∙ ap (λ (x : List ℕ). get_or x 1 0) marked,
)
  where
    marked : part 0 2 s ≡ b ∷ c ∷ []
    marked = (setting-says (b ∷ c ∷ []) n m s t).marked

pub one-first : (s : List ℕ) → one_byte_form s ≡ true → get_or s 0 0 ≡ 0x30
unfolding one_byte_form
one-first s t = (marked-first 0x30 0x30 0 14 s t).0

pub mixed-first : (k : ℕ) (s : List ℕ) → mixed_with k s ≡ true → (get_or s 0 0 ≡ 0x41) × (get_or s 1 0 ≡ 0x30 + k)
unfolding mixed_with
mixed-first k s t = marked-first 0x41 (0x30 + k) k (14 - 2 * k) s (and_right (within 2 5 k) _ t)

-- whatever k a text is mixed with, it is the digit that stands there
pub mixed-any : (k : ℕ) (s : List ℕ) → mixed_with k s ≡ true → mixed_form s ≡ true
unfolding mixed_form
mixed-any k s t = let e : get_or s 1 0 - 0x30 ≡ k = omega (arith, (mixed-first k s t).1) in rw e t

-- no text has two of the forms
pub two-or-one : (s : List ℕ) → two_byte_form s ≡ true → one_byte_form s ≡ true → ⊥
two-or-one s t u = absurd (omega (arith, two-first s t, one-first s u))

pub two-or-mixed : (s : List ℕ) → two_byte_form s ≡ true → mixed_form s ≡ true → ⊥
unfolding mixed_form
two-or-mixed s t u = absurd (omega (arith, two-first s t, (mixed-first (get_or s 1 0 - 0x30) s u).0))

pub one-or-mixed : (s : List ℕ) → one_byte_form s ≡ true → mixed_form s ≡ true → ⊥
unfolding mixed_form
one-or-mixed s t u = absurd (omega (arith, one-first s t, (mixed-first (get_or s 1 0 - 0x30) s u).0))

-- so 'one of the three' is exactly one: a text has one where it meets the class, and else none
pub one_of_three : (s : List ℕ) → forms_of s ≡ cond (passbook_form s) 1 0
unfolding forms_of passbook_form
one_of_three s = exactly (two_byte_form s) (one_byte_form s) (mixed_form s) (two-or-one s) (two-or-mixed s) (one-or-mixed s)
  where
    exactly :
        (a b c : Bool) → (a ≡ true → b ≡ true → ⊥) → (a ≡ true → c ≡ true → ⊥) → (b ≡ true → c ≡ true → ⊥) →
        cond a 1 0 + (cond b 1 0 + cond c 1 0) ≡ cond (a || (b || c)) 1 0
    exactly true true c p q r = absurd (p refl refl)
    exactly true false true p q r = absurd (q refl refl)
    exactly true false false p q r = refl
    exactly false true true p q r = absurd (r refl refl)
    exactly false true false p q r = refl
    exactly false false true p q r = refl
    exactly false false false p q r = refl

-- a text of each form meets the class
module _ (s : List ℕ) where
  pub two_meets : two_byte_form s ≡ true → passbook_form s ≡ true
  unfolding passbook_form
  two_meets t = or_left (two_byte_form s) _ t

  pub one-meets : one_byte_form s ≡ true → passbook_form s ≡ true
  unfolding passbook_form
  one-meets t = or_right (two_byte_form s) _ (or_left (one_byte_form s) (mixed_form s) t)

  pub mixed-meets : mixed_form s ≡ true → passbook_form s ≡ true
  unfolding passbook_form
  mixed-meets t = or_right (two_byte_form s) _ (or_right (one_byte_form s) (mixed_form s) t)

-- whatever its form, a text is a setting of sixteen bytes, whose mark keeps the wider rule
record Formed (s : List ℕ) : Type 0 where
  mark : List ℕ
  n : ℕ
  m : ℕ
  is : setting mark n m s ≡ true
  sixteen : length mark + 2 * n + m ≡ 16
  wide : (k : ℕ) → k < length mark → within 0x20 0xFF (get_or mark k 0) ≡ true

-- a mark of two bytes from "0" to "A"
mark-wide : (b c : ℕ) → within 0x30 0x41 b ≡ true → within 0x30 0x41 c ≡ true → (k : ℕ) → k < 2 → within 0x20 0xFF (get_or (b ∷ c ∷ []) k 0) ≡ true
mark-wide b c p q zero h = run-wide 0x30 0x41 b (omega arith) (omega arith) p
mark-wide b c p q (suc zero) h = run-wide 0x30 0x41 c (omega arith) (omega arith) q
mark-wide b c p q (suc (suc k)) h = absurd (not-suc-le-zero (le_of_suc-le-suc (le_of_suc-le-suc h)))

module _ (s : List ℕ) where
  two_formed : two_byte_form s ≡ true → Formed s
  unfolding two_byte_form
  two_formed t = record { mark = []; n = 8; m = 0; is = t; sixteen = refl; wide = λ k h. absurd (not-suc-le-zero h) }

  one-formed : one_byte_form s ≡ true → Formed s
  unfolding one_byte_form
  one-formed t =
      let digit = within-if 0x30 0x41 0x30 (omega arith) (omega arith) in
      record { mark = 0x30 ∷ 0x30 ∷ []; n = 0; m = 14; is = t; sixteen = refl; wide = mark-wide 0x30 0x30 digit digit }

  mixed-formed : mixed_form s ≡ true → Formed s
  unfolding mixed_form mixed_with
  mixed-formed t =
      let k = get_or s 1 0 - 0x30 in
      let few = within-high 2 5 k (and_left (within 2 5 k) _ t) in
      let digit = within-if 0x30 0x41 (0x30 + k) (omega arith) (omega (arith, few)) in
      record {
        mark = 0x41 ∷ (0x30 + k) ∷ [];
        n = k;
        m = 14 - 2 * k;
        is = and_right (within 2 5 k) _ t;
        sixteen = omega (arith, few);
        wide = mark-wide 0x41 (0x30 + k) (within-if 0x30 0x41 0x41 (omega arith) (omega arith)) digit;
      }

  formed : passbook_form s ≡ true → Formed s
  unfolding passbook_form
  formed t =
      ⊎_elim two_formed (λ u. ⊎_elim one-formed mixed-formed (or_cases (one_byte_form s) (mixed_form s) u))
      (or_cases (two_byte_form s) (one_byte_form s || mixed_form s) t)

  -- so it keeps the wider rule and is sixteen bytes long
  pub form-wide : passbook_form s ≡ true → each 0x20 0xFF s ≡ true
  form-wide t = let f = formed t in setting-wide f.mark f.n f.m s f.wide f.is

  pub form-long : passbook_form s ≡ true → length s ≡ 16
  form-long t = let f = formed t in (setting-says f.mark f.n f.m s f.is).long ∙ f.sixteen
