-- What begins as a value does is a tag, its shortest length and contents; and such a frame is found whatever stands behind it.
-- Assumes nothing.
use Prim.Native.Nat.{ℕ, suc, ◌+◌, ◌-◌, ◌%◌, ◌≤◌, ◌<◌}
use mathlib.Core.List.{List, [], ◌∷◌, ◌++◌, append_assoc}
use mathlib.Core.Path.{◌≡◌, refl, sym, ◌∙◌, ap}
use mathlib.Core.Logic.{⊎_elim}
use native.Mathlib.Omega.{arith}
use borrow.Author.Tests.{ltb-true, ltb-false}
use lib.Dec.{ltb}
use lib.ListN.{length, get_or, take, drop, length-append, length-drop, get_or-append}
use lib.Seq.{take_at, drop_at, take-add, length-take-le, get_or-take}
use Rattle.laws.specs.Part.{part}
use Rattle.laws.proofs.Bools.{either}
use Rattle.signed.specs.Shape.{number_to, number_of, Length, short, long, Framed}
use Rattle.signed.specs.Checking.{front_of, said_in, contents_in}
use Rattle.signed.proofs.Numbers.{some-digit}
use Rattle.signed.proofs.Framing.{Begins, Long, short-front, short-said, long-said, short-shortest, long-is, long-if}

-- the two bytes with which s begins, and what is behind them
module _ (x y : ℕ) (t : List ℕ) where
  front-two : front_of (x ∷ y ∷ t) ≡ suc (suc (y - 128))
  unfolding front_of
  front-two = omega arith

  part-two : (k : ℕ) → part 2 k (x ∷ y ∷ t) ≡ take k t
  unfolding part
  part-two k = refl

  contents-two : contents_in (x ∷ y ∷ t) ≡ take (said_in (x ∷ y ∷ t)) (drop (y - 128) t)
  unfolding contents_in part
  contents-two = rw front-two

  take-two : (n : ℕ) → take (front_of (x ∷ y ∷ t) + n) (x ∷ y ∷ t) ≡ x ∷ y ∷ (take (y - 128) t ++ take n (drop (y - 128) t))
  take-two n = rw (take-add, front-two)

-- from the bytes to the frame
module _ (x y : ℕ) (t : List ℕ) (b : Begins (x ∷ y ∷ t)) where
  behind-long : (y - 128) + said_in (x ∷ y ∷ t) ≤ length t
  behind-long = omega (arith, b.fits, front-two x y t)

  contents-long : length (contents_in (x ∷ y ∷ t)) ≡ said_in (x ∷ y ∷ t)
  contents-long = rw (contents-two x y t) (length-take-le (said_in (x ∷ y ∷ t)) (drop (y - 128) t) (rw length-drop (omega (arith, behind-long))))

  field-short : y < 128 → Length (y ∷ take (y - 128) t) (said_in (x ∷ y ∷ t))
  field-short h =
      let none : y - 128 ≡ 0 = omega arith in
      short (rw (none, short-said (x ∷ y ∷ t) h)) (rw (short-said (x ∷ y ∷ t) h) h)

  -- some byte follows, since none says 0
  follows : 128 ≤ y → Long (x ∷ y ∷ t) → 0 < y - 128
  unfolding number_of number_to
  follows h l = ⊎_elim (ltb-true 0 (y - 128)) (λ e. absurd (none (ltb-false 0 (y - 128) e))) (either (ltb 0 (y - 128)))
    where
      none : y - 128 ≤ 0 → ⊥
      none z =
          let k : y - 128 ≡ 0 = omega arith in
          let said : said_in (x ∷ y ∷ t) ≡ 0 = long-said (x ∷ y ∷ t) h ∙ ap number_of (part-two x y t (y - 128)) ∙ ap (λ (n : ℕ). number_of (take n t)) k in
          omega (arith, said, l.most)

  field-long : 128 ≤ y → Length (y ∷ take (y - 128) t) (said_in (x ∷ y ∷ t))
  field-long h =
      let l = long-is (x ∷ y ∷ t) h b.shortest in
      let size : length (take (y - 128) t) ≡ y - 128 = length-take-le (y - 128) t (omega (arith, behind-long)) in
      let said : number_of (take (y - 128) t) ≡ said_in (x ∷ y ∷ t) = sym (long-said (x ∷ y ∷ t) h ∙ ap number_of (part-two x y t (y - 128))) in
      long (take (y - 128) t) (ap (λ (n : ℕ). n ∷ take (y - 128) t) (omega (arith, size))) (omega (arith, size, l.few))
      (rw (get_or-take (y - 128) t 0 0 (follows h l)) l.some) said l.most

  begins-framed : Framed x (contents_in (x ∷ y ∷ t)) (take (front_of (x ∷ y ∷ t) + said_in (x ∷ y ∷ t)) (x ∷ y ∷ t))
  begins-framed = record {
    one = b.one;
    field = y ∷ take (y - 128) t;
    size = rw contents-long (⊎_elim (λ e. field-short (ltb-true y 128 e)) (λ e. field-long (ltb-false y 128 e)) (either (ltb y 128)));
    all = take-two x y t (said_in (x ∷ y ∷ t)) ∙ rw (contents-two x y t);
  }

pub framed-take : (s : List ℕ) → Begins s → Framed (get_or s 0 0) (contents_in s) (take (front_of s + said_in s) s)
unfolding front_of
framed-take [] b = absurd (omega (arith, b.fits))
framed-take (x ∷ []) b = absurd (omega (arith, b.fits))
framed-take (x ∷ y ∷ t) b = begins-framed x y t b

-- a frame found at the front of s: its tag, its size, its contents
pub record Found (tag : ℕ) (contents v s : List ℕ) : Type 0 where
  pub tagged : get_or s 0 0 ≡ tag
  pub begins : Begins s
  pub size : front_of s + said_in s ≡ length v
  pub held : contents_in s ≡ contents

module _ (tag : ℕ) (c r : List ℕ) (one : tag % 32 ≡ 31 → ⊥) where
  found-short : length c < 128 → Found tag c (tag ∷ length c ∷ c) (tag ∷ length c ∷ (c ++ r))
  found-short h =
      let s : List ℕ = tag ∷ length c ∷ (c ++ r) in
      let front : front_of s ≡ 2 = short-front s h in
      let said : said_in s ≡ length c = short-said s h in
      let none : length c - 128 ≡ 0 = omega arith in
      record {
        tagged = refl;
        begins = record { one = one; shortest = short-shortest s h; fits = omega (arith, front, said, length-append c r) };
        size = omega (arith, front, said);
        held = contents-two tag (length c) (c ++ r) ∙ rw (said, none) (take_at c r (length c) refl);
      }

  found-long : (d : List ℕ) → length d < 127 → 0 < get_or d 0 0 → number_of d ≡ length c → 128 ≤ length c →
      Found tag c (tag ∷ (128 + length d) ∷ (d ++ c)) (tag ∷ (128 + length d) ∷ (d ++ (c ++ r)))
  found-long d few some number most =
      let s : List ℕ = tag ∷ (128 + length d) ∷ (d ++ (c ++ r)) in
      let k : 128 + length d - 128 ≡ length d = omega arith in
      let high : 128 ≤ 128 + length d = omega arith in
      let front : front_of s ≡ suc (suc (length d)) = front-two tag (128 + length d) (d ++ (c ++ r)) ∙ ap (λ (n : ℕ). suc (suc n)) k in
      let digits : part 2 (128 + length d - 128) s ≡ d = part-two tag (128 + length d) (d ++ (c ++ r)) (128 + length d - 128) ∙ rw k (take_at d (c ++ r) (length d) refl) in
      let said : said_in s ≡ length c = long-said s high ∙ rw digits number in
      let first : get_or (d ++ (c ++ r)) 0 0 ≡ get_or d 0 0 = get_or-append d (c ++ r) 0 0 (some-digit d some) in
      record {
        tagged = refl;
        begins = record {
          one = one;
          shortest = long-if s high (record { few = omega arith; some = rw first some; most = rw said most });
          fits = omega (arith, front, said, length-append d (c ++ r), length-append c r);
        };
        size = omega (arith, front, said, length-append d c);
        held = contents-two tag (128 + length d) (d ++ (c ++ r)) ∙ rw (said, k, drop_at d (c ++ r) (length d) refl) (take_at c r (length c) refl);
      }

-- from the frame to the bytes
pub framed-found : (tag : ℕ) (c v : List ℕ) → Framed tag c v → (r : List ℕ) → Found tag c v (v ++ r)
framed-found tag c v f r = by_length f.size
  where
    by_length : Length f.field (length c) → Found tag c v (v ++ r)
    by_length (short e h) =
        let all : v ≡ tag ∷ length c ∷ c = f.all ∙ ap (λ (x : List ℕ). tag ∷ (x ++ c)) e in
        rw all (found-short tag c r f.one h)
    by_length (long d e few some number most) =
        let all : v ≡ tag ∷ (128 + length d) ∷ (d ++ c) = f.all ∙ ap (λ (x : List ℕ). tag ∷ (x ++ c)) e in
        rw (all, append_assoc d c r) (found-long tag c r f.one d few some number most)
