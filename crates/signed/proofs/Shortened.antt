-- *Shortest*: the form of a length that a frame has is the shortest of all definite forms, and the shortest is of this form.
-- Assumes nothing.
use Prim.Native.Nat.{ℕ, zero, suc, ◌+◌, ◌-◌, ◌^◌, ◌≤◌, ◌<◌}
use mathlib.Core.List.{List, [], ◌∷◌}
use mathlib.Core.Path.{◌≡◌, refl, sym, ◌∙◌, ap}
use mathlib.Core.Logic.{◌↔◌, ⊎_elim}
use native.Mathlib.Nat.{not-suc-le-zero, le_refl, pow-le-pow_right, pow-suc}
use native.Mathlib.Omega.{arith}
use borrow.Author.Tests.{ltb-true, ltb-false}
use lib.Arith.{digits_lt}
use lib.Dec.{ltb}
use lib.ListN.{length, get_or}
use Rattle.laws.proofs.Bools.{either}
use Rattle.signed.specs.Shape.{number_to, number_of, Length, short, long}
use Rattle.signed.specs.Shortest.{Bytes, Definite, one, several, Shortest}
use Rattle.signed.proofs.Numbers.{some-digit, number-least}

-- w bytes say less than 256 ^ w
number-below : (s : List ℕ) (w : ℕ) → w ≤ length s → Bytes s → number_to s w < 256 ^ w
unfolding number_to
number-below s zero h b = omega arith
number-below s (suc w) h b = rw pow-suc (digits_lt (number-below s w (omega arith) b) (b w h))

-- a zero in front says nothing
number-zero : (s : List ℕ) (w : ℕ) → number_to (0 ∷ s) (suc w) ≡ number_to s w
unfolding number_to
number-zero s zero = refl
number-zero s (suc w) = rw (number-zero s w)

-- bytes behind the first are bytes
bytes-behind : (x : ℕ) (s : List ℕ) → Bytes (x ∷ s) → Bytes s
bytes-behind x s b i h = b (suc i) (omega arith)

bytes-before : (x : ℕ) (s : List ℕ) → x < 256 → Bytes s → Bytes (x ∷ s)
bytes-before x s h b zero l = h
bytes-before x s h b (suc i) l = b i (omega arith)

-- what says more than any w bytes has more than w
longer : (n k w : ℕ) → 256 ^ k ≤ n → n < 256 ^ w → k < w
longer n k w low high =
    ⊎_elim (ltb-true k w)
    (λ f. absurd (let up : 256 ^ w ≤ 256 ^ k = pow-le-pow_right {n = 256} (omega arith) {i = w} {j = k} (ltb-false k w f) in omega (arith, up)))
    (either (ltb k w))

low_end : (d : List ℕ) (n : ℕ) → 0 < get_or d 0 0 → number_of d ≡ n → 256 ^ (length d - 1) ≤ n
unfolding number_of
low_end d n some number =
    let e : suc (length d - 1) ≡ length d = omega (arith, some-digit d some) in
    let least = number-least d some (length d - 1) in
    rw (← number) (rw e at least)

high_end : (d : List ℕ) (n : ℕ) → Bytes d → number_of d ≡ n → n < 256 ^ length d
unfolding number_of
high_end d n b number = rw (← number) (number-below d (length d) (le_refl (length d)) b)

-- the form of a frame is definite, and none is shorter
length-definite : (field : List ℕ) (n : ℕ) → Length field n → Definite field n
length-definite field n (short e h) = one e h
length-definite field n (long d e few some number most) = several d e (some-digit d some) few number

length-least : (field : List ℕ) (n : ℕ) → Length field n → (other : List ℕ) → Bytes other → Definite other n → length field ≤ length other
length-least field n (short e h) other b (one f k) = omega (arith, ap length e, ap length f)
length-least field n (short e h) other b (several d f some few number) = omega (arith, ap length e, ap length f)
length-least field n (long d e few some number most) other b (one f k) = absurd (omega arith)
length-least field n (long d e few some number most) other b (several g f some' few' number') =
    omega (arith, ap length e, ap length f, longer n (length d - 1) (length g) (low_end d n some number) (high_end g n (bytes-behind (128 + length g) g (rw f at b)) number'))

pub length-shortest : (field : List ℕ) (n : ℕ) → Length field n → Shortest field n
length-shortest field n l = record { definite = length-definite field n l; least = length-least field n l }

-- and a definite form that none is shorter than is the form of a frame
module _ (field : List ℕ) (n : ℕ) (b : Bytes field) (least : (other : List ℕ) → Bytes other → Definite other n → length field ≤ length other) where
  -- one byte is enough below 128
  not-few : (d : List ℕ) → field ≡ (128 + length d) ∷ d → 0 < length d → 128 ≤ n
  not-few d e some =
      ⊎_elim (λ t. absurd (let h : n < 128 = ltb-true n 128 t in omega (arith, ap length e, least (n ∷ []) (bytes-before n [] (omega arith) (λ i l. absurd (not-suc-le-zero l))) (one refl h))))
      (ltb-false n 128)
      (either (ltb n 128))

  -- a zero in front can be left out
  not-zero : (d : List ℕ) → field ≡ (128 + length d) ∷ d → length d < 127 → number_of d ≡ n → 128 ≤ n → 0 < get_or d 0 0
  unfolding number_of number_to
  not-zero [] e few number most = absurd (omega arith)
  not-zero (suc x ∷ d) e few number most = omega arith
  not-zero (zero ∷ d) e few number most =
      let said : number_of d ≡ n = sym (number-zero d (length d)) ∙ number in
      let bytes : Bytes d = bytes-behind 0 d (bytes-behind (128 + suc (length d)) (0 ∷ d) (rw e at b)) in
      let some : 0 < length d = some-said d n said most in
      absurd (omega (arith, ap length e, least ((128 + length d) ∷ d) (bytes-before (128 + length d) d (omega arith) bytes) (several d refl some (omega arith) said)))
    where
      some-said : (d : List ℕ) (n : ℕ) → number_of d ≡ n → 128 ≤ n → 0 < length d
      some-said [] n e h = absurd (omega arith)
      some-said (x ∷ d) n e h = omega arith

  definite-length : Definite field n → Length field n
  definite-length (one e h) = short e h
  definite-length (several d e some few number) =
      let most = not-few d e some in
      long d e few (not-zero d e few number most) number most

pub shortest : (field : List ℕ) (n : ℕ) → Bytes field → Length field n ↔ Shortest field n
shortest field n b = (length-shortest field n, λ s. definite-length field n b s.least s.definite)
