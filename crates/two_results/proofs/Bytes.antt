-- Records that agree in every byte but those of some items, by their parts.
-- Assumes nothing.
use Prim.Native.Nat.{ℕ, suc, ◌+◌, ◌-◌, ◌≤◌, ◌<◌, zero-le}
use mathlib.Core.Bool.{Bool, true, false, ◌||◌}
use mathlib.Core.List.{List, [], ◌∷◌}
use mathlib.Core.Logic.{⊎_elim, inl, inr}
use mathlib.Core.Path.{◌≡◌, sym, ◌∙◌}
use native.Mathlib.Omega.{arith}
use borrow.Author.Tests.{leb-true, ltb-true, ltb-false}
use lib.Dec.{leb, ltb}
use lib.ListN.{length, get_or, get_or-eq_default}
use Rattle.laws.specs.Part.{part}
use Rattle.laws.proofs.Bools.{either, or_cases}
use Rattle.laws.proofs.Every.{every, every-at}
use Rattle.laws.proofs.Parts.{part-byte, bytes-part}
use Rattle.text.specs.Characters.{each}
use Rattle.text.proofs.Classes.{only_part}
use Rattle.tables.specs.declared.copied.Copied.{Copied}
use Rattle.tables.specs.Copied.{no_item}
use Rattle.two_results.specs.Same.{Outside, SameBut}

-- what lies from place n on before, between and behind some items, in records of so many bytes, is the same
abbrev pub Between : ℕ → ℕ → List Copied → List ℕ → List ℕ → Type 0
Between whole n [] a b = part n (whole - n) a ≡ part n (whole - n) b
Between whole n (c ∷ items) a b = (part n (c.1 - n) a ≡ part n (c.1 - n) b) × Between whole (c.1 + c.2) items a b

module _ (whole : ℕ) (a b : List ℕ) (long : length a ≡ whole) (wide : length b ≡ whole) where
  between-byte : (items : List Copied) (n : ℕ) → Between whole n items a b → (x : ℕ) → n ≤ x → Outside items x → get_or a x 0 ≡ get_or b x 0
  between-byte [] n e x l o = ⊎_elim inside past (either (ltb x whole))
    where
      inside : ltb x whole ≡ true → get_or a x 0 ≡ get_or b x 0
      inside t = part-byte n (whole - n) x a b e l (omega (arith, ltb-true x whole t))

      past : ltb x whole ≡ false → get_or a x 0 ≡ get_or b x 0
      past f =
          let h = ltb-false x whole f in
          get_or-eq_default a 0 (rw long h) ∙ sym (get_or-eq_default b 0 (rw wide h))
  between-byte (c ∷ items) n e x l o =
      ⊎_elim (λ h. part-byte n (c.1 - n) x a b e.0 l (omega arith))
      (λ h. between-byte items (c.1 + c.2) e.1 x h (λ d g. o (suc d) (omega arith)))
      (o 0 (omega arith))

  -- so the records are the same but for these
  pub same-between : (items : List Copied) → Between whole 0 items a b → SameBut items a b
  same-between items e = record { long = long ∙ sym wide; bytes = λ x o. between-byte items 0 e x zero-le o }

-- a place that shares no byte with some items
abbrev pub clear : Copied → Copied → Bool
clear c d = leb (c.1 + c.2) d.1 || leb (d.1 + d.2) c.1

-- records that are the same but for some items share every part that is clear of them
pub same-part :
    (items : List Copied) (a b : List ℕ) → SameBut items a b → (c : Copied) → every (clear c) items ≡ true → c.1 + c.2 ≤ length a →
    part c.1 c.2 a ≡ part c.1 c.2 b
same-part items a b e c t h = bytes-part c.1 c.2 a b h e.long (λ x l g. e.bytes x (outside x l g))
  where
    outside : (x : ℕ) → c.1 ≤ x → x < c.1 + c.2 → Outside items x
    outside x l g d k =
        let e = get_or items d no_item in
        ⊎_elim (λ u. inl (omega (arith, leb-true (c.1 + c.2) e.1 u))) (λ u. inr (omega (arith, leb-true (e.1 + e.2) c.1 u)))
        (or_cases (leb (c.1 + c.2) e.1) (leb (e.1 + e.2) c.1) (every-at (clear c) items t d no_item k))

-- a part that is one byte over and over in both is the same
pub only_same :
    (b at w : ℕ) (x y : List ℕ) → at + w ≤ length x → at + w ≤ length y → each b b (part at w x) ≡ true → each b b (part at w y) ≡ true →
    part at w x ≡ part at w y
only_same b at w x y h g t u = only_part b at w x h t ∙ sym (only_part b at w y g u)
