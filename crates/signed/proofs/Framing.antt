-- How a value begins: the test as facts, and the facts as what a frame is.
-- Assumes nothing.
use Prim.Native.Nat.{ℕ, suc, ◌+◌, ◌-◌, ◌^◌, ◌%◌, ◌≤◌, ◌<◌}
use mathlib.Core.Bool.{Bool, true, false, not, ◌&&◌}
use mathlib.Core.List.{List}
use mathlib.Core.Path.{◌≡◌, sym, ◌∙◌}
use mathlib.Core.Logic.{⊎_elim}
use native.Mathlib.Nat.{pow-le-pow_right}
use native.Mathlib.Omega.{arith}
use borrow.Author.Tests.{lt-ltb, le-ltb, le-leb, ltb-true, leb-true, eqb-true, eqb-false, ne_eqb, eq-eqb, not-true}
use lib.Dec.{ltb, leb, eqb}
use lib.ListN.{length, get_or, drop, length-drop}
use lib.Seq.{take_all}
use Rattle.laws.specs.Part.{part}
use Rattle.laws.proofs.Bools.{and_left, and_right, either}
use Rattle.laws.proofs.Parts.{part_length, part_at}
use Rattle.signed.specs.Shape.{number_to, number_of}
use Rattle.signed.specs.Checking.{front_of, said_in, is_shortest, is_framed, framed_in, contents_in, is_one}
use Rattle.signed.proofs.Numbers.{number-least}

-- a length of one byte, and one of more
pub short-front : (s : List ℕ) → get_or s 1 0 < 128 → front_of s ≡ 2
unfolding front_of
short-front s h = omega arith

pub short-said : (s : List ℕ) → get_or s 1 0 < 128 → said_in s ≡ get_or s 1 0
unfolding said_in
short-said s h = rw (lt-ltb (get_or s 1 0) 128 h)

pub long-said : (s : List ℕ) → 128 ≤ get_or s 1 0 → said_in s ≡ number_of (part 2 (get_or s 1 0 - 128) s)
unfolding said_in
long-said s h = rw (le-ltb (get_or s 1 0) 128 h)

pub short-shortest : (s : List ℕ) → get_or s 1 0 < 128 → is_shortest s ≡ true
unfolding is_shortest
short-shortest s h = rw (lt-ltb (get_or s 1 0) 128 h)

pub long-shortest : (s : List ℕ) → 128 ≤ get_or s 1 0 → is_shortest s ≡ (ltb (get_or s 1 0) 255 && (ltb 0 (get_or s 2 0) && leb 128 (said_in s)))
unfolding is_shortest
long-shortest s h = rw (le-ltb (get_or s 1 0) 128 h)

-- what the shortest form of more than one byte asks
pub record Long (s : List ℕ) : Type 0 where
  pub few : get_or s 1 0 < 255
  pub some : 0 < get_or s 2 0
  pub most : 128 ≤ said_in s

pub long-is : (s : List ℕ) → 128 ≤ get_or s 1 0 → is_shortest s ≡ true → Long s
long-is s h t =
    let e = sym (long-shortest s h) ∙ t in
    let f = and_right (ltb (get_or s 1 0) 255) (ltb 0 (get_or s 2 0) && leb 128 (said_in s)) e in
    record {
      few = ltb-true (get_or s 1 0) 255 (and_left (ltb (get_or s 1 0) 255) (ltb 0 (get_or s 2 0) && leb 128 (said_in s)) e);
      some = ltb-true 0 (get_or s 2 0) (and_left (ltb 0 (get_or s 2 0)) (leb 128 (said_in s)) f);
      most = leb-true 128 (said_in s) (and_right (ltb 0 (get_or s 2 0)) (leb 128 (said_in s)) f);
    }

pub long-if : (s : List ℕ) → 128 ≤ get_or s 1 0 → Long s → is_shortest s ≡ true
long-if s h l = long-shortest s h ∙ rw (lt-ltb (get_or s 1 0) 255 l.few, lt-ltb 0 (get_or s 2 0) l.some, le-leb 128 (said_in s) l.most)

-- s begins with a tag of one byte, a length in the shortest form and as many bytes
pub record Begins (s : List ℕ) : Type 0 where
  pub one : get_or s 0 0 % 32 ≡ 31 → ⊥
  pub shortest : is_shortest s ≡ true
  pub fits : front_of s + said_in s ≤ length s

pub begins-if : (s : List ℕ) → Begins s → is_framed s ≡ true
unfolding is_framed
begins-if s b = rw (ne_eqb (get_or s 0 0 % 32) 31 b.one, b.shortest, le-leb (front_of s + said_in s) (length s) b.fits)

pub begins-is : (s : List ℕ) → is_framed s ≡ true → Begins s
unfolding is_framed
begins-is s t =
    let a : Bool = not (eqb (get_or s 0 0 % 32) 31) in
    let b : Bool = is_shortest s in
    let d : Bool = leb (front_of s + said_in s) (length s) in
    let f = and_right a (b && d) t in
    record {
      one = eqb-false (get_or s 0 0 % 32) 31 (not-true (eqb (get_or s 0 0 % 32) 31) (and_left a (b && d) t));
      shortest = and_left b d f;
      fits = leb-true (front_of s + said_in s) (length s) (and_right b d f);
    }

-- how many bytes it has then; none where it does not begin so
pub framed-good : (s : List ℕ) → Begins s → framed_in s ≡ front_of s + said_in s
unfolding framed_in
framed-good s b = rw (begins-if s b)

pub framed-none : (s : List ℕ) → (Begins s → ⊥) → framed_in s ≡ 0
unfolding framed_in
framed-none s not_so = ⊎_elim (λ t. absurd (not_so (begins-is s t))) (λ f. rw f) (either (is_framed s))

pub framed-begins : (s : List ℕ) → 0 < framed_in s → Begins s
unfolding framed_in
framed-begins s h = ⊎_elim (begins-is s) (λ f. absurd (none f h)) (either (is_framed s))
  where
    none : is_framed s ≡ false → 0 < framed_in s → ⊥
    none f g = let l = rw f at g in omega (arith, l)

-- a length of more than eight bytes says more than 64 bits hold
pub framed-far : (s : List ℕ) → 10 < front_of s → length s < 2 ^ 64 → Begins s → ⊥
unfolding front_of number_of
framed-far s far few b =
    let k : ℕ = get_or s 1 0 - 128 in
    let high : 128 ≤ get_or s 1 0 = omega arith in
    let l = long-is s high b.shortest in
    let d : List ℕ = part 2 k s in
    let long : length d ≡ k = part_length 2 k s (omega (arith, b.fits)) in
    let first : get_or d 0 0 ≡ get_or s 2 0 = part_at 2 k s 0 (omega arith) in
    let least : 256 ^ (k - 1) ≤ number_to d (suc (k - 1)) = number-least d (rw first l.some) (k - 1) in
    let e : suc (k - 1) ≡ length d = omega (arith, long) in
    let said : 256 ^ (k - 1) ≤ said_in s = rw (long-said s high, ← e) least in
    let power : 256 ^ 8 ≤ 256 ^ (k - 1) = pow-le-pow_right {n = 256} (omega arith) {i = 8} {j = k - 1} (omega arith) in
    omega (arith, b.fits, said, power)

-- where the contents of what is framed lie
pub front-within : (s : List ℕ) → 0 < framed_in s → front_of s ≤ framed_in s
front-within s h = omega (arith, framed-good s (framed-begins s h))

pub framed-contents : (s : List ℕ) → 0 < framed_in s → part (front_of s) (framed_in s - front_of s) s ≡ contents_in s
unfolding contents_in
framed-contents s h = let e : framed_in s - front_of s ≡ said_in s = omega (arith, framed-good s (framed-begins s h)) in rw e

-- one value with a tag: what the test finds, and where its contents lie
pub record One (tag : ℕ) (s : List ℕ) : Type 0 where
  pub tagged : get_or s 0 0 ≡ tag
  pub begins : Begins s
  pub all : front_of s + said_in s ≡ length s

pub one-is : (tag : ℕ) (s : List ℕ) → is_one tag s ≡ true → One tag s
unfolding is_one
one-is tag s t =
    let a : Bool = eqb (get_or s 0 0) tag in
    let b : Bool = ltb 0 (framed_in s) in
    let d : Bool = eqb (framed_in s) (length s) in
    let f = and_right a (b && d) t in
    let begins = framed-begins s (ltb-true 0 (framed_in s) (and_left b d f)) in
    record {
      tagged = eqb-true (get_or s 0 0) tag (and_left a (b && d) t);
      begins = begins;
      all = sym (framed-good s begins) ∙ eqb-true (framed_in s) (length s) (and_right b d f);
    }

pub one-if : (tag : ℕ) (s : List ℕ) → One tag s → is_one tag s ≡ true
unfolding is_one front_of
one-if tag s o =
    let e : framed_in s ≡ front_of s + said_in s = framed-good s o.begins in
    rw (eq-eqb (get_or s 0 0) tag o.tagged, lt-ltb 0 (framed_in s) (omega (arith, e)), eq-eqb (framed_in s) (length s) (e ∙ o.all))

pub one-contents : (tag : ℕ) (s : List ℕ) → is_one tag s ≡ true → drop (front_of s) s ≡ contents_in s
unfolding contents_in part
one-contents tag s t = sym (take_all (said_in s) (drop (front_of s) s) (rw length-drop (omega (arith, (one-is tag s t).all))))
