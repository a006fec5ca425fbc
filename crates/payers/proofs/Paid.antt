-- A payer's requests, from the last one back: a loop along its chain sums them, or marks each of them.
-- Assumes nothing.
use Rattle.std.specs.Prelude.{Option}
use Rattle.std.specs.Option.{is_some}
use Prim.Native.Nat.{ℕ, suc, ◌+◌, ◌-◌, ◌≤◌, ◌<◌, ◌^◌, zero-le}
use mathlib.Core.Bool.{Bool, true, false, ◌&&◌}
use mathlib.Core.List.{List}
use mathlib.Core.Logic.{⊎_elim}
use mathlib.Core.Path.{◌≡◌, refl, sym, ◌∙◌}
use native.Mathlib.Nat.{le_refl, add-zero, eq-or-lt_of_le}
use native.Mathlib.Numerals.{add-one}
use native.Mathlib.Omega.{arith}
use borrow.Author.Tests.{lt-ltb, le-ltb, ltb-true, ltb-false, eqb-true, eqb-false}
use lib.Dec.{eqb, ltb}
use lib.ListN.{length, get_or, set, length-set}
use lib.Seq.{get_or-set_same, get_or-set_other}
use Rattle.laws.specs.Sum.{sum}
use Rattle.laws.proofs.Bools.{either}
use Rattle.laws.proofs.Parts.{same-equal}
use Rattle.laws.proofs.Sums.{sum_bound}
use Rattle.laws.proofs.Tabs.{tab-same, tab-list}
use Rattle.keys.specs.Chains.{last}
use Rattle.keys.specs.Keys.{has_key_in, from_one}
use Rattle.keys.proofs.Chained.{last_within, last-holds, last-above, last_some, some-from, sum-last}
use Rattle.payers.specs.declared.members.Member.{Member}
use Rattle.payers.specs.Payers.{named, won_from, taken_from, settled, member_after}
use Rattle.payers.specs.Turns.{mark_with, marks_with}

and-off-left : (a b : Bool) → a ≡ false → (a && b) ≡ false
and-off-left a b f = rw f

and-off-right : (a b : Bool) → b ≡ false → (a && b) ≡ false
and-off-right true b f = f
and-off-right false b f = refl

-- one of the payer's n requests, counted from 1, or none
pub record Own (key : ℕ → List ℕ) (payer : List ℕ) (n at : ℕ) : Type 0 where
  pub within : at ≤ n
  pub names : (i : ℕ) → at ≡ i + 1 → has_key_in key payer i ≡ true

module _ (key : ℕ → List ℕ) (payer : List ℕ) where
  pub own-last : (n m at : ℕ) → m ≤ n → at ≡ last (has_key_in key payer) m → Own key payer n at
  own-last n m at h e = record {
    within = omega (arith, last_within (has_key_in key payer) m);
    names = λ i q. last-holds (has_key_in key payer) m i (sym e ∙ q);
  }

  -- where the loop stands is one of them
  module _ (n at : ℕ) (o : Own key payer n at) (left : 0 < at) where
    pub own-inside : at - 1 < n
    own-inside = omega (arith, o.within)

  -- where the loop stands, at request i + 1
  module _ (n i : ℕ) (o : Own key payer n (suc i)) where
    pub own-names : has_key_in key payer i ≡ true
    own-names = o.names i (sym (add-one i))

    pub own_key : key i ≡ payer
    unfolding has_key_in
    own_key = same-equal (key i) payer own-names

    -- the one before is earlier, and is one of them too
    pub own-less : (next : ℕ) → next ≡ last (has_key_in key payer) i → next < suc i
    own-less next e = omega (arith, last_within (has_key_in key payer) i)

    pub own-more : (next : ℕ) → next ≡ last (has_key_in key payer) i → Own key payer n next
    own-more next e = own-last n i next (omega (arith, o.within)) e

  -- the sum: what all requests give is what those from `at` on gave, and the rest
  module _ (won : ℕ → ℕ) where
    won-here : (i : ℕ) → has_key_in key payer i ≡ true → won_from key won payer i ≡ won i
    unfolding won_from
    won-here i t = rw t

    won-off : (i : ℕ) → has_key_in key payer i ≡ false → won_from key won payer i ≡ 0
    unfolding won_from
    won-off i f = rw f

    won-last : (n at : ℕ) → at ≡ last (has_key_in key payer) n → sum (won_from key won payer) n ≡ sum (won_from key won payer) at
    won-last n at e = rw e (sum-last (has_key_in key payer) (won_from key won payer) n (λ i _. won-off i))

    pub taken_start : (n at : ℕ) → at ≡ last (has_key_in key payer) n → taken_from key won n payer ≡ 0 + sum (won_from key won payer) at
    unfolding taken_from
    taken_start n at e = omega (arith, won-last n at e)

    module _ (n i so_far : ℕ) (o : Own key payer n (suc i)) (inv : taken_from key won n payer ≡ so_far + sum (won_from key won payer) (suc i)) where
      peel : sum (won_from key won payer) (suc i) ≡ sum (won_from key won payer) i + won i
      unfolding sum
      peel = rw (won-here i (own-names n i o))

      pub taken_more :
          (next : ℕ) → next ≡ last (has_key_in key payer) i →
          taken_from key won n payer ≡ so_far + won i + sum (won_from key won payer) next
      taken_more next e = omega (arith, inv, peel, won-last i next e)

      -- and it stays small
      small-from : ((j : ℕ) → j < n → won j ≤ 10 ^ 13) → (j : ℕ) → j < n → won_from key won payer j ≤ 10 ^ 13
      small-from small j h =
          ⊎_elim (λ t. rw (won-here j t) (small j h)) (λ f. rw (won-off j f) zero-le) (either (has_key_in key payer j))

      pub taken-small : n ≤ 65535 → ((j : ℕ) → j < n → won j ≤ 10 ^ 13) → so_far + won i ≤ 655350000000000000
      unfolding taken_from
      taken-small few small = omega (arith, inv, peel, sum_bound (won_from key won payer) (10 ^ 13) n (small-from small))

    pub taken-end : (n so_far : ℕ) → taken_from key won n payer ≡ so_far + sum (won_from key won payer) 0 → so_far ≡ taken_from key won n payer
    unfolding sum
    taken-end n so_far inv = sym (rw add-zero at inv)

  -- the marks: what all requests are marked with is what those below `at` are, over what is marked so far
  module _ (number : ℕ) where
    mark-off : (n : ℕ) (marks : List ℕ) (j : ℕ) → (ltb j n && has_key_in key payer j) ≡ false → mark_with key n payer number marks j ≡ get_or marks j 0
    unfolding mark_with
    mark-off n marks j f = rw f

    mark-last :
        (n : ℕ) (marks : List ℕ) (j : ℕ) → mark_with key n payer number marks j ≡ mark_with key (last (has_key_in key payer) n) payer number marks j
    unfolding mark_with
    mark-last n marks j = ⊎_elim below above (either (ltb j (last (has_key_in key payer) n)))
      where
        below :
            ltb j (last (has_key_in key payer) n) ≡ true →
            mark_with key n payer number marks j ≡ mark_with key (last (has_key_in key payer) n) payer number marks j
        below t =
            let l : j < last (has_key_in key payer) n = ltb-true j _ t in
            rw (t, lt-ltb j n (omega (arith, last_within (has_key_in key payer) n)))

        above :
            ltb j (last (has_key_in key payer) n) ≡ false →
            mark_with key n payer number marks j ≡ mark_with key (last (has_key_in key payer) n) payer number marks j
        above f = mark-off n marks j (⊎_elim past (and-off-left (ltb j n) _) (either (ltb j n))) ∙ sym (mark-off (last (has_key_in key payer) n) marks j (and-off-left (ltb j (last (has_key_in key payer) n)) _ f))
          where
            past : ltb j n ≡ true → (ltb j n && has_key_in key payer j) ≡ false
            past t = and-off-right (ltb j n) _ (last-above (has_key_in key payer) n j (ltb-false j (last (has_key_in key payer) n) f) (ltb-true j n t))

    pub marks-start :
        (n at : ℕ) (marks : List ℕ) → at ≡ last (has_key_in key payer) n →
        marks_with key n payer number marks ≡ marks_with key at payer number marks
    unfolding marks_with
    marks-start n at marks e = rw e (tab-same _ _ (length marks) (mark-last n marks))

    mark-more :
        (i : ℕ) (marks : List ℕ) → i < length marks → has_key_in key payer i ≡ true → (j : ℕ) →
        mark_with key (suc i) payer number marks j ≡ mark_with key i payer number (set marks i number) j
    unfolding mark_with
    mark-more i marks h t j = ⊎_elim here there (either (eqb j i))
      where
        here :
            eqb j i ≡ true →
            mark_with key (suc i) payer number marks j ≡ mark_with key i payer number (set marks i number) j
        here q =
            rw (eqb-true j i q, lt-ltb i (suc i) (le_refl (suc i)), t, le-ltb i i (le_refl i), get_or-set_same marks i number 0 h)

        other :
            (j ≡ i → ⊥) →
            ltb j (suc i) ≡ ltb j i
        other ne =
            ⊎_elim
            (λ a. let l : j < i = ltb-true j _ a in rw (a, lt-ltb j (suc i) (omega arith)))
            (λ b. let g : i ≤ j = ltb-false j _ b in rw (b, le-ltb j (suc i) (⊎_elim (λ e. absurd (ne (sym e))) (λ l. l) (eq-or-lt_of_le g))))
            (either (ltb j i))

        there :
            eqb j i ≡ false →
            mark_with key (suc i) payer number marks j ≡ mark_with key i payer number (set marks i number) j
        there f =
            rw (other (eqb-false j i f), get_or-set_other marks i j number 0 (eqb-false j i f))

    pub marks-more :
        (n i next : ℕ) (marks whole : List ℕ) → Own key payer n (suc i) → i < length marks → next ≡ last (has_key_in key payer) i →
        whole ≡ marks_with key (suc i) payer number marks → whole ≡ marks_with key next payer number (set marks i number)
    unfolding marks_with
    marks-more n i next marks whole o h e inv =
        inv ∙ (one ∙ marks-start i next (set marks i number) e)
      where
        one : marks_with key (suc i) payer number marks ≡ marks_with key i payer number (set marks i number)
        one = rw length-set (tab-same _ _ (length marks) (mark-more i marks h (own-names n i o)))

    pub marks-end : (marks whole : List ℕ) → whole ≡ marks_with key 0 payer number marks → marks ≡ whole
    unfolding marks_with mark_with
    marks-end marks whole inv = sym (inv ∙ tab-list _ marks (λ j _. rw (le-ltb j 0 zero-le)))

-- a member that no request names, and one that some do: by the last of them
module _ (key : ℕ → List ℕ) (won : ℕ → ℕ) (n : ℕ) (m : Member) (at : Option ℕ) (found : at ≡ from_one (last (has_key_in key m.payer) n)) where
  by_last : named key n m.payer ≡ is_some at
  unfolding named
  by_last = last_some (has_key_in key m.payer) n ∙ rw found (some-from _)

  pub member-other : is_some at ≡ false → m ≡ member_after key won n m
  unfolding member_after
  member-other e = rw (by_last, e)

  pub member-named : is_some at ≡ true → settled m (taken_from key won n m.payer) ≡ member_after key won n m
  unfolding member_after
  member-named e = rw (by_last, e)
