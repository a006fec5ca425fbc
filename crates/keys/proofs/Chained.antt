-- The last place where, and the chains that find it: a chain passes every key of its slot, so the last of a kind is on it.
-- Assumes nothing.
use Rattle.std.specs.Prelude.{Option}
use Rattle.std.specs.Option.{is_some}
use Prim.Native.Nat.{ℕ, zero, suc, ◌+◌, ◌-◌, ◌≤◌, ◌<◌, zero-le}
use mathlib.Core.Bool.{Bool, true, false, cond}
use mathlib.Core.List.{List}
use mathlib.Core.Path.{◌≡◌, refl, sym, ◌∙◌, ap}
use mathlib.Core.Logic.{⊎_elim}
use native.Mathlib.Nat.{le_refl, le_trans, mod-lt, eq-or-lt_of_le, le_of_suc-le-suc, not-suc-le-zero}
use native.Mathlib.Numerals.{add-one}
use native.Mathlib.Omega.{arith}
use borrow.Author.Tests.{lt-ltb, eq-eqb, eqb-true, eqb-false, ltb-true, ltb-false}
use lib.Dec.{eqb, ltb}
use lib.ListN.{length, get_or, set, replicate, length-set, length-replicate, get_or-replicate}
use lib.Seq.{get_or-set_same, get_or-set_other}
use Rattle.laws.specs.Least.{some}
use Rattle.laws.specs.Part.{same}
use Rattle.laws.specs.Sum.{sum}
use Rattle.laws.proofs.Bools.{either, clash}
use Rattle.laws.proofs.Leasts.{least-none, some-true, some-false}
use Rattle.laws.proofs.Parts.{same-equal}
use Rattle.keys.specs.Keys.{has_key_in, from_one, counted}
use Rattle.keys.specs.Chains.{slots, last, slot_of, in_slot, Chained, Link, links_with, no_links, links_of}

-- a number counted from 1 is the number of the place that it counts
pub counted-from : (x : ℕ) → counted (from_one x) ≡ x
counted-from zero = refl
counted-from (suc k) = refl

pub counted-is : (at : Option ℕ) (x : ℕ) → at ≡ from_one x → counted at ≡ x
counted-is at x e = rw e (counted-from x)

-- it is some place where it is not 0
pub some-from : (x : ℕ) → ltb 0 x ≡ is_some (from_one x)
some-from zero = refl
some-from (suc k) = lt-ltb 0 (suc k) (omega arith)

module _ (p : ℕ → Bool) where
  -- one place more: it is the last, or the last is the one so far
  pub last-start : last p 0 ≡ 0
  unfolding last
  last-start = refl

  pub last-here : (n : ℕ) → p n ≡ true → last p (n + 1) ≡ n + 1
  unfolding last
  last-here n t = rw (add-one, t)

  pub last-past : (n : ℕ) → p n ≡ false → last p (n + 1) ≡ last p n
  unfolding last
  last-past n f = rw (add-one, f)

  pub last_within : (n : ℕ) → last p n ≤ n
  unfolding last
  last_within zero = zero-le
  last_within (suc n) = ⊎_elim (λ t. rw t (le_refl (suc n))) (λ f. rw f (omega (arith, last_within n))) (either (p n))

  -- it holds there
  pub last-holds : (n j : ℕ) → last p n ≡ j + 1 → p j ≡ true
  unfolding last
  last-holds zero j e = absurd (omega arith)
  last-holds (suc n) j e = ⊎_elim here (λ f. last-holds n j (rw f at e)) (either (p n))
    where
      here : p n ≡ true → p j ≡ true
      here t = let z : suc n ≡ j + 1 = rw t at e in let q : j ≡ n = omega arith in rw q t

  pub last-below : (n j : ℕ) → last p n ≡ j + 1 → j < n
  last-below n j e = omega (arith, last_within n)

  -- and at no place from there on
  pub last-above : (n i : ℕ) → last p n ≤ i → i < n → p i ≡ false
  unfolding last
  last-above zero i l h = absurd (not-suc-le-zero h)
  last-above (suc n) i l h = ⊎_elim here (λ f. past f (last-above n i (rw f at l))) (either (p n))
    where
      here : p n ≡ true → p i ≡ false
      here t = let z : suc n ≤ i = rw t at l in absurd (omega arith)

      past : p n ≡ false → (i < n → p i ≡ false) → p i ≡ false
      past f ih = ⊎_elim (λ e. rw e f) ih (eq-or-lt_of_le (le_of_suc-le-suc h))

  pub last_none : (n : ℕ) → last p n ≡ 0 → (i : ℕ) → i < n → p i ≡ false
  last_none n e i h = last-above n i (rw e zero-le) h

  pub last_found : (n i : ℕ) → i < n → p i ≡ true → 0 < last p n
  last_found n i h t =
      ⊎_elim (λ l. ltb-true 0 (last p n) l) (λ f. absurd (clash t (last-above n i (le_trans (ltb-false 0 (last p n) f) zero-le) h))) (either (ltb 0 (last p n)))

  pub last_some : (n : ℕ) → some p n ≡ ltb 0 (last p n)
  last_some n = ⊎_elim found missing (either (ltb 0 (last p n)))
    where
      found : ltb 0 (last p n) ≡ true → some p n ≡ ltb 0 (last p n)
      found t =
          let l : 0 < last p n = ltb-true 0 (last p n) t in
          let e : last p n ≡ last p n - 1 + 1 = omega arith in
          some-true p n (last p n - 1) (last-below n (last p n - 1) e) (last-holds n (last p n - 1) e) ∙ sym t

      missing : ltb 0 (last p n) ≡ false → some p n ≡ ltb 0 (last p n)
      missing f =
          let l : last p n ≤ 0 = ltb-false 0 (last p n) f in
          some-false p n (least-none p n (last_none n (omega arith))) ∙ sym f

  -- nowhere from m on: the last of n is the last of m
  pub last-until : (n m : ℕ) → m ≤ n → ((i : ℕ) → m ≤ i → i < n → p i ≡ false) → last p n ≡ last p m
  unfolding last
  last-until zero m h f = let e : m ≡ 0 = omega arith in rw e
  last-until (suc n) m h f =
      ⊎_elim (λ e. rw e) (λ l. rw (f n (le_of_suc-le-suc l) (le_refl (suc n))) (last-until n m (le_of_suc-le-suc l) (λ i a b. f i a (omega arith)))) (eq-or-lt_of_le h)

-- what holds only where p does is looked for from the last of p on down: so a chain is enough
pub last-skip : (p q : ℕ → Bool) (n : ℕ) → ((i : ℕ) → i < n → q i ≡ true → p i ≡ true) → last q n ≡ last q (last p n)
last-skip p q n f =
    last-until q n (last p n) (last_within p n)
    (λ i l h. ⊎_elim (λ t. absurd (clash (f i h t) (last-above p n i l h))) (λ z. z) (either (q i)))

-- the same places, the same last one
pub last-same : (p q : ℕ → Bool) (n : ℕ) → ((i : ℕ) → i < n → p i ≡ q i) → last p n ≡ last q n
unfolding last
last-same p q zero f = refl
last-same p q (suc n) f = rw (f n (le_refl (suc n)), last-same p q n (λ i l. f i (omega arith)))

-- what is 0 off the places of p is summed up to the last of them
sum-until : (f : ℕ → ℕ) (n m : ℕ) → m ≤ n → ((i : ℕ) → m ≤ i → i < n → f i ≡ 0) → sum f n ≡ sum f m
unfolding sum
sum-until f zero m h z = let e : m ≡ 0 = omega arith in rw e
sum-until f (suc n) m h z =
    ⊎_elim (λ e. rw e)
    (λ l. omega (arith, z n (le_of_suc-le-suc l) (le_refl (suc n)), sum-until f n m (le_of_suc-le-suc l) (λ i a b. z i a (omega arith))))
    (eq-or-lt_of_le h)

pub sum-last : (p : ℕ → Bool) (f : ℕ → ℕ) (n : ℕ) → ((i : ℕ) → i < n → p i ≡ false → f i ≡ 0) → sum f n ≡ sum f (last p n)
sum-last p f n z = sum-until f n (last p n) (last_within p n) (λ i l h. z i h (last-above p n i l h))

-- a key's slot
pub slot-within : (key : List ℕ) → slot_of key < slots
unfolding slot_of slots
slot-within key = mod-lt _ (omega arith)

pub slot_same : (a b : List ℕ) → same a b ≡ true → slot_of a ≡ slot_of b
slot_same a b t = ap slot_of (same-equal a b t)

pub slot_has : (key : ℕ → List ℕ) (one : List ℕ) (i : ℕ) → has_key_in key one i ≡ true → in_slot key (slot_of one) i ≡ true
unfolding has_key_in in_slot
slot_has key one i t = eq-eqb _ _ (slot_same (key i) one t)

pub slot-here : (key : ℕ → List ℕ) (one : List ℕ) (i : ℕ) → key i ≡ one → in_slot key (slot_of one) i ≡ true
unfolding in_slot
slot-here key one i e = eq-eqb _ _ (ap slot_of e)

-- the lists of links are as long as what was lent
pub with-length : (key : List ℕ) (i : ℕ) (links : List ℕ) → length (links_with key i links) ≡ length links
unfolding links_with
with-length key i links = simp length-set

pub none-length : (links : List ℕ) → length (no_links links) ≡ length links
unfolding no_links
none-length links = length-replicate (length links) 0

pub links-length : (key : ℕ → List ℕ) (n : ℕ) (links : List ℕ) → length (links_of key n links) ≡ length links
unfolding links_of
links-length key zero links = none-length links
links-length key (suc n) links = with-length (key n) n (links_of key n links) ∙ links-length key n links

-- links of no key: what was cleared, and an array of zeros
pub none-cleared : (old links : List ℕ) → links ≡ no_links old → links ≡ no_links links
unfolding no_links
none-cleared old links e = e ∙ rw (e, length-replicate (length old))

pub none-zeros : (n : ℕ) → replicate n 0 ≡ no_links (replicate n 0)
unfolding no_links
none-zeros n = rw length-replicate

-- a loop that chains key after key
pub links-start : (key : ℕ → List ℕ) (links : List ℕ) → links ≡ no_links links → links ≡ links_of key 0 links
unfolding links_of
links-start key links e = e

pub links-more : (key : ℕ → List ℕ) (i : ℕ) (links : List ℕ) → links_of key (i + 1) links ≡ links_with (key i) i (links_of key i links)
unfolding links_of
links-more key i links = rw add-one

-- in links that were cleared
pub links-cleared : (key : ℕ → List ℕ) (n : ℕ) (old links : List ℕ) → links ≡ no_links old → links_of key n links ≡ links_of key n old
unfolding links_of
links-cleared key zero old links e = sym (none-cleared old links e) ∙ e
links-cleared key (suc n) old links e = rw (links-cleared key n old links e)

module _ (key : ℕ → List ℕ) where
  pub none-chained : (links : List ℕ) → slots ≤ length links → Chained key 0 (no_links links)
  unfolding no_links
  none-chained links h = record {
    room = rw (none-length links) (omega arith);
    lasts = λ b l. get_or-replicate (length links) b 0 0 (omega arith) ∙ sym (last-start (in_slot key b));
    befores = λ i l. absurd (not-suc-le-zero l);
  }

  -- one key more
  module _ (i : ℕ) (links : List ℕ) (c : Chained key i links) (fits : slots + i < length links) where
    abbrev placed : List ℕ
    placed = set links (slots + i) (get_or links (slot_of (key i)) 0)

    lasts-with : (b : ℕ) → b < slots → get_or (links_with (key i) i links) b 0 ≡ last (in_slot key b) (i + 1)
    unfolding links_with in_slot
    lasts-with b l = ⊎_elim here there (either (eqb (slot_of (key i)) b))
      where
        here : eqb (slot_of (key i)) b ≡ true → get_or (links_with (key i) i links) b 0 ≡ last (in_slot key b) (i + 1)
        here t =
            rw (last-here (in_slot key b) i t, ← eqb-true _ b t)
            (get_or-set_same placed (slot_of (key i)) (i + 1) 0 (rw length-set (omega (arith, slot-within (key i)))))

        there : eqb (slot_of (key i)) b ≡ false → get_or (links_with (key i) i links) b 0 ≡ last (in_slot key b) (i + 1)
        there f =
            rw (last-past (in_slot key b) i f)
            (get_or-set_other placed (slot_of (key i)) b (i + 1) 0 (λ e. eqb-false _ b f (sym e)) ∙
            (get_or-set_other links (slots + i) b _ 0 (λ e. absurd (omega arith)) ∙ c.lasts b l))

    befores-with : (j : ℕ) → j < i + 1 → get_or (links_with (key i) i links) (slots + j) 0 ≡ last (in_slot key (slot_of (key j))) j
    unfolding links_with
    befores-with j h =
        get_or-set_other placed (slot_of (key i)) (slots + j) (i + 1) 0 (λ e. absurd (omega (arith, slot-within (key i)))) ∙
        ⊎_elim here there (eq-or-lt_of_le (le_of_suc-le-suc (rw add-one at h)))
      where
        here : j ≡ i → get_or placed (slots + j) 0 ≡ last (in_slot key (slot_of (key j))) j
        here e = rw (e, get_or-set_same links (slots + i) (get_or links (slot_of (key i)) 0) 0 fits) (c.lasts (slot_of (key i)) (slot-within (key i)))

        there : j < i → get_or placed (slots + j) 0 ≡ last (in_slot key (slot_of (key j))) j
        there l = get_or-set_other links (slots + i) (slots + j) _ 0 (λ e. absurd (omega arith)) ∙ c.befores j l

    pub joined : Chained key (i + 1) (links_with (key i) i links)
    joined = record { room = rw (with-length (key i) i links) (omega arith); lasts = lasts-with; befores = befores-with }

  pub chained : (n : ℕ) (links : List ℕ) → slots + n ≤ length links → Chained key n (links_of key n links)
  unfolding links_of
  chained zero links h = none-chained links (omega arith)
  chained (suc n) links h =
      rw add-one at (joined n (links_of key n links) (chained n links (omega arith)) (rw (links-length key n links) (omega arith)))

  -- only the n keys count
  pub chained_same : (other : ℕ → List ℕ) (n : ℕ) (links : List ℕ) → ((i : ℕ) → i < n → key i ≡ other i) → Chained key n links → Chained other n links
  unfolding in_slot
  chained_same other n links e c = record {
    room = c.room;
    lasts = λ b l. c.lasts b l ∙ last-same (in_slot key b) (in_slot other b) n (λ i h. rw (e i h));
    befores = λ i l. c.befores i l ∙ rw (e i l) (last-same (in_slot key (slot_of (other i))) (in_slot other (slot_of (other i))) i (λ j h. rw (e j (omega arith))));
  }

  -- a chain from its slot on, and from one of its keys on
  module _ (n : ℕ) (links : List ℕ) (c : Chained key n links) where
    last-link : (b m at : ℕ) → m ≤ n → at ≡ last (in_slot key b) m → Link key n b at
    last-link b m at h e = record { within = omega (arith, last_within (in_slot key b) m); goes = λ i q. last-holds (in_slot key b) m i (sym e ∙ q) }

    pub link-slot : (b : ℕ) → b < slots → Link key n b (get_or links b 0)
    link-slot b h = last-link b n _ (le_refl n) (c.lasts b h)

    pub link-before : (b i : ℕ) → i < n → in_slot key b i ≡ true → Link key n b (get_or links (slots + i) 0)
    unfolding in_slot
    link-before b i h t = last-link b i _ (omega arith) (rw (← eqb-true _ b t) (c.befores i h))

    -- the last that is this key, looked for along its chain: from its slot on, and from a key of the slot on
    module _ (one : List ℕ) where
      pub along-slot : last (has_key_in key one) n ≡ last (has_key_in key one) (get_or links (slot_of one) 0)
      along-slot = rw (c.lasts (slot_of one) (slot-within one)) (last-skip _ _ n (λ i _. slot_has key one i))

      pub along-before : (i : ℕ) → i < n → in_slot key (slot_of one) i ≡ true → last (has_key_in key one) i ≡ last (has_key_in key one) (get_or links (slots + i) 0)
      unfolding in_slot
      along-before i h t = rw (c.befores i h, eqb-true (slot_of (key i)) (slot_of one) t) (last-skip _ _ i (λ j _. slot_has key one j))

    -- a loop along a chain: from key i of it the next link, which is earlier, and what is found there is what is found here unless this is it
    module _ (b i : ℕ) (l : Link key n b (suc i)) where
      here : in_slot key b i ≡ true
      here = l.goes i (sym (add-one i))

      pub link-more : Link key n b (get_or links (slots + i) 0)
      link-more = link-before b i l.within here

    pub link-less : (i : ℕ) → i < n → get_or links (slots + i) 0 < suc i
    link-less i h = rw (c.befores i h) (omega (arith, last_within (in_slot key (slot_of (key i))) i))

    pub along-more :
        (one : List ℕ) (i : ℕ) → Link key n (slot_of one) (suc i) → has_key_in key one i ≡ false →
        last (has_key_in key one) (suc i) ≡ last (has_key_in key one) (get_or links (slots + i) 0)
    unfolding last
    along-more one i l f = ap (λ (b : Bool). cond b (suc i) (last (has_key_in key one) i)) f ∙ along-before one i l.within (here (slot_of one) i l)
