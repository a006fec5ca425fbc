-- A search for the first key that repeats an earlier one, with room for so many keys at a time: what holds between two turns of it.
-- Assumes nothing.
use Prim.Native.Nat.{ℕ, ◌+◌, ◌-◌, ◌*◌, ◌≤◌, ◌<◌, zero-le}
use mathlib.Core.Bool.{true, false, cond, not}
use mathlib.Core.List.{List}
use mathlib.Core.Path.{◌≡◌, sym, ◌∙◌, ap}
use mathlib.Core.Logic.{⊎_elim, ◌⊎◌, inl, inr}
use native.Mathlib.Nat.{le_refl, eq-or-lt_of_le, le_of_suc-le-suc}
use native.Mathlib.Numerals.{add-one}
use native.Mathlib.Omega.{arith}
use borrow.Author.Count.{below_more}
use borrow.Author.Tests.{lt-ltb, le-ltb, ltb-true, ltb-false, le-leb, lt-leb, not-true}
use lib.Dec.{ltb}
use lib.ListN.{length}
use Rattle.laws.specs.Least.{least}
use Rattle.laws.specs.Part.{part}
use Rattle.laws.specs.Stored.{stored}
use Rattle.laws.proofs.Bools.{either, clash, and_left, and_right}
use Rattle.laws.proofs.Leasts.{least-none, least-stop, some-true}
use Rattle.laws.proofs.Parts.{same-equal, same_self}
use Rattle.laws.proofs.Stores.{stored-length, stored_here, stored-before}
use Rattle.keys.specs.Keys.{shares_in, repeats_in, has_key_in}
use Rattle.keys.specs.Chains.{slots, last, Chained, links_with, no_links}
use Rattle.keys.proofs.Spaced.{spaced-key}
use Rattle.keys.proofs.Distinct.{repeat-none}
use Rattle.keys.proofs.Chained.{last-below, last-holds, last_none, none-chained, joined, chained_same, with-length, none-length}
use Rattle.payers.specs.declared.turns.Place.{Place}
use Rattle.payers.specs.Turns.{held, held_spacing, held_key, placed, held_in, seen, holds, moved_on, goes_on, next_in, sought_place, sought_room, joined_links, sought_links}

-- there is room for one
pub some-held : 0 < held
unfolding held
some-held = omega arith

-- how many are held: all from the first on, or as many as there is room for
pub held-few : (p : Place) → p.at - p.from < held → held_in p ≡ p.at - p.from
unfolding held_in
held-few p h = rw (lt-leb held (p.at - p.from) h)

pub held-full : (p : Place) → held ≤ p.at - p.from → held_in p ≡ held
unfolding held_in
held-full p h = rw (le-leb held (p.at - p.from) h)

held-cases : (p : Place) → ((p.at - p.from < held) × (held_in p ≡ p.at - p.from)) ⊎ ((held ≤ p.at - p.from) × (held_in p ≡ held))
held-cases p =
    ⊎_elim (λ t. let l = ltb-true _ _ t in inl (l, held-few p l)) (λ f. let l = ltb-false _ _ f in inr (l, held-full p l))
    (either (ltb (p.at - p.from) held))

-- one that is looked at and not yet past the room is among them
pub held-among : (p : Place) (i : ℕ) → i < p.at - p.from → i < held → i < held_in p
held-among p i a b = ⊎_elim (λ e. omega arith) (λ e. omega arith) (held-cases p)

pub held-within : (p : Place) → held_in p ≤ p.at - p.from
held-within p = ⊎_elim (λ e. omega arith) (λ e. omega arith) (held-cases p)

-- a payer was seen where one that is held is the same
pub seen-is : (p : Place) (payer room : List ℕ) → seen p payer room ≡ true → (i : ℕ) × ((i < held_in p) × (held_key room i ≡ payer))
unfolding seen has_key_in
seen-is p payer room t =
    let has = has_key_in (held_key room) payer in
    let l : 0 < last has (held_in p) = ltb-true 0 (last has (held_in p)) t in
    let i = last has (held_in p) - 1 in
    let e : last has (held_in p) ≡ i + 1 = omega arith in
    (i, (last-below has (held_in p) i e, same-equal (held_key room i) payer (last-holds has (held_in p) i e)))

pub seen-not : (p : Place) (payer room : List ℕ) → seen p payer room ≡ false → (i : ℕ) → i < held_in p → held_key room i ≡ payer → ⊥
unfolding seen has_key_in
seen-not p payer room f i h e =
    let has = has_key_in (held_key room) payer in
    let l : last has (held_in p) ≤ 0 = ltb-false 0 (last has (held_in p)) f in
    clash (rw e (same_self payer)) (last_none has (held_in p) (omega arith) i h)

-- a payer that is stored behind those that are held is the next, and those are as they were
module _ (room payer : List ℕ) (h : ℕ) (fits : 20 * h + 20 ≤ length room) (long : length payer ≡ 20) where
  room_fits : 20 * h + length payer ≤ length room
  room_fits = omega arith

  held_next : held_key (stored (20 * h) payer room) h ≡ payer
  unfolding held_key
  held_next =
      spaced-key held_spacing (stored (20 * h) payer room) h ∙
      (ap (λ (a : ℕ). part a 20 (stored (20 * h) payer room)) (omega arith) ∙ stored_here (20 * h) payer room room_fits 20 long)

  held-earlier : (i : ℕ) → i < h → held_key room i ≡ held_key (stored (20 * h) payer room) i
  unfolding held_key
  held-earlier i l =
      spaced-key held_spacing room i ∙
      (sym (stored-before (20 * h) payer room room_fits (i * 20 + 0) 20 (omega arith)) ∙ sym (spaced-key held_spacing (stored (20 * h) payer room) i))

  held-length : length (stored (20 * h) payer room) ≡ length room
  held-length = stored-length (20 * h) payer room room_fits

-- a turn by its cases: the member was seen, it is held, or there is no room for it
pub next-on : (p : Place) → goes_on p ≡ true → next_in p ≡ placed (p.from + held) (p.from + held) p.end
unfolding next_in
next-on p t = rw t

pub next-stays : (p : Place) → goes_on p ≡ false → next_in p ≡ p
unfolding next_in
next-stays p f = rw f

-- the next members are taken up only at the end, and where there is no room for all that are left
pub goes_end : (p : Place) → goes_on p ≡ true → p.end ≤ p.at
unfolding goes_on
goes_end p t = ltb-false p.at p.end (not-true _ (and_left _ _ t))

pub goes-more : (p : Place) → goes_on p ≡ true → held < p.end - p.from
unfolding goes_on
goes-more p t = ltb-true held (p.end - p.from) (and_right (not (ltb p.at p.end)) _ t)

pub goes-not : (p : Place) → goes_on p ≡ false → (p.at < p.end → ⊥) → p.end ≤ p.from + held
unfolding goes_on
goes-not p f n =
    ⊎_elim (λ t. absurd (n (ltb-true _ _ t))) (λ e. let l = ltb-false held (p.end - p.from) (rw e at f) in omega arith) (either (ltb p.at p.end))

module _ (p : Place) (payer room : List ℕ) where
  pub moved-seen : seen p payer room ≡ true → moved_on p payer room ≡ placed p.from p.at p.at
  unfolding moved_on
  moved-seen t = rw t

  pub moved-past : seen p payer room ≡ false → moved_on p payer room ≡ placed p.from (p.at + 1) p.end
  unfolding moved_on
  moved-past f = rw f

  pub holds-seen : seen p payer room ≡ true → holds p payer room ≡ false
  unfolding holds
  holds-seen t = rw t

  pub holds-room : seen p payer room ≡ false → p.at - p.from < held → holds p payer room ≡ true
  unfolding holds
  holds-room f h = rw (f, lt-ltb _ _ h)

  pub holds-full : seen p payer room ≡ false → held ≤ p.at - p.from → holds p payer room ≡ false
  unfolding holds
  holds-full f h = rw (f, le-ltb _ _ h)

  pub room-held : holds p payer room ≡ true → sought_room p payer room ≡ stored (20 * held_in p) payer room
  unfolding sought_room
  room-held t = rw t

  pub room-kept : holds p payer room ≡ false → sought_room p payer room ≡ room
  unfolding sought_room
  room-kept f = rw f

  pub links-held : (links : List ℕ) → holds p payer room ≡ true → joined_links p payer links room ≡ links_with payer (held_in p) links
  unfolding joined_links
  links-held links t = rw t

  pub links-kept : (links : List ℕ) → holds p payer room ≡ false → joined_links p payer links room ≡ links
  unfolding joined_links
  links-kept links f = rw f

-- between two turns, of a search among `many` keys: those before `from` are done with, those from there on are held while there is room
pub record Sought (key : ℕ → List ℕ) (many : ℕ) (p : Place) (links room : List ℕ) : Type 0 where
  pub begun : p.from ≤ p.at
  pub below : p.at ≤ p.end
  pub inside : p.end ≤ many
  pub links-room : slots + held ≤ length links
  pub held-room : 20 * held ≤ length room
  pub kept : (i : ℕ) → i < held_in p → held_key room i ≡ key (p.from + i)
  pub chained : Chained (held_key room) (held_in p) links
  -- no key below `end` is one before `from`, and none below `at` is an earlier one that there is room for
  pub before : (i j : ℕ) → j < p.from → j < i → i < p.end → key i ≡ key j → ⊥
  pub among : (i j : ℕ) → p.from ≤ j → j < p.from + held → j < i → i < p.at → key i ≡ key j → ⊥
  -- the search ends at a key that repeats an earlier one, or at the end of the keys
  pub stops : p.end < many → (j : ℕ) × ((j < p.end) × (key p.end ≡ key j))

-- and where it is at its end there was room for all that are left
pub record Seeks (key : ℕ → List ℕ) (many : ℕ) (p : Place) (links room : List ℕ) : Type 0 where
  pub so_far : Sought key many p links room
  pub whole : (p.at < p.end → ⊥) → p.end ≤ p.from + held

module _ (key : ℕ → List ℕ) (many : ℕ) where
  pub seeks-start :
      (links room : List ℕ) → slots + held ≤ length links → 20 * held ≤ length room → links ≡ no_links links →
      Seeks key many (placed 0 0 many) links room
  seeks-start links room a b e = record {
    so_far = record {
      begun = le_refl 0;
      below = zero-le;
      inside = le_refl many;
      links-room = a;
      held-room = b;
      kept = λ i h. absurd (omega (arith, none));
      chained = rw (none, e) (none-chained (held_key room) links (omega arith));
      before = λ i j h _ _ _. absurd (omega arith);
      among = λ i j _ _ _ h _. absurd (omega arith);
      stops = λ h. absurd (omega arith);
    };
    whole = λ f. omega arith;
  }
    where
      none : held_in (placed 0 0 many) ≡ 0
      none = held-few (placed 0 0 many) (omega (arith, some-held))

  -- at the end of what there was room for: the next ones are held
  module _ (p : Place) (links room : List ℕ) (s : Sought key many p links room) where
    goes_on_lem : goes_on p ≡ true → Seeks key many (placed (p.from + held) (p.from + held) p.end) (no_links links) room
    goes_on_lem t = record {
      so_far = record {
        begun = le_refl (p.from + held);
        below = omega (arith, more);
        inside = s.inside;
        links-room = rw (none-length links) s.links-room;
        held-room = s.held-room;
        kept = λ i h. absurd (omega (arith, none));
        chained = rw none (none-chained (held_key room) links (omega (arith, s.links-room)));
        before = λ i j h l b e.
            ⊎_elim (λ t. s.before i j (ltb-true _ _ t) l b e) (λ f. s.among i j (ltb-false _ _ f) h l (omega (arith, end)) e) (either (ltb j p.from));
        among = λ i j h _ l b _. absurd (omega arith);
        stops = s.stops;
      };
      whole = λ f. absurd (f (omega (arith, more)));
    }
      where
        end : p.at ≡ p.end
        end = omega (arith, goes_end p t, s.below)

        more : held < p.end - p.from
        more = goes-more p t

        none : held_in (placed (p.from + held) (p.from + held) p.end) ≡ 0
        none = held-few (placed (p.from + held) (p.from + held) p.end) (omega (arith, some-held)) ∙ omega arith

    -- so the search is where `next_in` says
    pub seeks-next : Seeks key many (next_in p) (cond (goes_on p) (no_links links) links) room
    seeks-next =
        ⊎_elim (λ t. rw (next-on p t, t) (goes_on_lem t)) (λ f. rw (next-stays p f, f) (record { so_far = s; whole = goes-not p f })) (either (goes_on p))

  -- a turn: key `at` is looked at
  module _ (p : Place) (links room payer : List ℕ) (s : Sought key many p links room) (more : p.at < p.end)
      (is : payer ≡ key p.at) (long : length payer ≡ 20) where
    -- it was seen: it is the one that repeats
    sought-seen : seen p payer room ≡ true → Sought key many (placed p.from p.at p.at) links room
    unfolding held_in
    sought-seen t = record {
      begun = s.begun;
      below = le_refl p.at;
      inside = omega (arith, s.inside);
      links-room = s.links-room;
      held-room = s.held-room;
      kept = s.kept;
      chained = s.chained;
      before = λ i j h l b. s.before i j h l (omega arith);
      among = s.among;
      stops = λ _. (p.from + i, (omega (arith, s.begun, held-within p, found.1.0), sym is ∙ (sym found.1.1 ∙ s.kept i found.1.0)));
    }
      where
        found : (i : ℕ) × ((i < held_in p) × (held_key room i ≡ payer))
        found = seen-is p payer room t

        i : ℕ
        i = found.0

    -- it was not seen: it is none of those that are held
    abbrev moved : Place
    moved = placed p.from (p.at + 1) p.end

    sought-among : seen p payer room ≡ false → (i j : ℕ) → p.from ≤ j → j < p.from + held → j < i → i < p.at + 1 → key i ≡ key j → ⊥
    sought-among f i j a b l h e = ⊎_elim here (λ g. s.among i j a b l g e) (eq-or-lt_of_le (le_of_suc-le-suc (rw add-one at h)))
      where
        here : i ≡ p.at → ⊥
        here q =
            let back : p.from + (j - p.from) ≡ j = omega arith in
            let k : j - p.from < held_in p = held-among p (j - p.from) (omega arith) (omega arith) in
            seen-not p payer room f (j - p.from) k (s.kept (j - p.from) k ∙ (ap key back ∙ (sym e ∙ (ap key q ∙ sym is))))

    -- and it is held, where there is room
    sought-held : seen p payer room ≡ false → p.at - p.from < held → Sought key many moved (links_with payer (held_in p) links) (stored (20 * held_in p) payer room)
    sought-held f h = record {
      begun = omega (arith, s.begun);
      below = omega arith;
      inside = s.inside;
      links-room = rw (with-length payer (held_in p) links) s.links-room;
      held-room = rw (held-length room payer (held_in p) fits long) s.held-room;
      kept = rw one_more
          (below_more (λ k. held_key room' k ≡ key (p.from + k)) (held_in p) (λ k l. sym (held-earlier room payer (held_in p) fits long k l) ∙ s.kept k l) new);
      chained = rw one_more (rw (held_next room payer (held_in p) fits long) at at_last);
      before = s.before;
      among = sought-among f;
      stops = s.stops;
    }
      where
        room' : List ℕ
        room' = stored (20 * held_in p) payer room

        few : held_in p ≡ p.at - p.from
        few = held-few p h

        fits : 20 * held_in p + 20 ≤ length room
        fits = omega (arith, few, s.held-room)

        one_more : held_in moved ≡ held_in p + 1
        one_more =
            ⊎_elim (λ t. held-few moved (ltb-true _ _ t) ∙ omega (arith, few, s.begun))
            (λ g. let l = ltb-false _ _ g in held-full moved l ∙ omega (arith, few, s.begun))
            (either (ltb (p.at + 1 - p.from) held))

        new : held_key room' (held_in p) ≡ key (p.from + held_in p)
        new = held_next room payer (held_in p) fits long ∙ (is ∙ ap key (omega (arith, few, s.begun)))

        at_last : Chained (held_key room') (held_in p + 1) (links_with (held_key room' (held_in p)) (held_in p) links)
        at_last =
            joined (held_key room') (held_in p) links
            (chained_same (held_key room) (held_key room') (held_in p) links (held-earlier room payer (held_in p) fits long) s.chained)
            (omega (arith, few, s.links-room))

    sought-past : seen p payer room ≡ false → held ≤ p.at - p.from → Sought key many moved links room
    sought-past f h = record {
      begun = omega (arith, s.begun);
      below = omega arith;
      inside = s.inside;
      links-room = s.links-room;
      held-room = s.held-room;
      kept = rw as_many s.kept;
      chained = rw as_many s.chained;
      before = s.before;
      among = sought-among f;
      stops = s.stops;
    }
      where
        as_many : held_in moved ≡ held_in p
        as_many = held-full moved (omega arith) ∙ sym (held-full p h)

    -- by the definitions of a turn
    sought-moved : Sought key many (moved_on p payer room) (joined_links p payer links room) (sought_room p payer room)
    sought-moved =
        ⊎_elim found (λ f. ⊎_elim (λ t. here f (ltb-true _ _ t)) (λ g. past f (ltb-false _ _ g)) (either (ltb (p.at - p.from) held))) (either (seen p payer room))
      where
        found : seen p payer room ≡ true → Sought key many (moved_on p payer room) (joined_links p payer links room) (sought_room p payer room)
        found t =
            let n = holds-seen p payer room t in
            rw (moved-seen p payer room t, links-kept p payer room links n, room-kept p payer room n) (sought-seen t)

        here : seen p payer room ≡ false → p.at - p.from < held → Sought key many (moved_on p payer room) (joined_links p payer links room) (sought_room p payer room)
        here f h =
            let y = holds-room p payer room f h in
            rw (moved-past p payer room f, links-held p payer room links y, room-held p payer room y) (sought-held f h)

        past : seen p payer room ≡ false → held ≤ p.at - p.from → Sought key many (moved_on p payer room) (joined_links p payer links room) (sought_room p payer room)
        past f h =
            let n = holds-full p payer room f h in
            rw (moved-past p payer room f, links-kept p payer room links n, room-kept p payer room n) (sought-past f h)

    pub seeks-turn : Seeks key many (sought_place p payer room) (sought_links p payer links room) (sought_room p payer room)
    unfolding sought_place sought_links
    seeks-turn = seeks-next (moved_on p payer room) (joined_links p payer links room) (sought_room p payer room) sought-moved

  -- at the end it is the first that repeats
  pub seeks-end : (p : Place) (links room : List ℕ) → Seeks key many p links room → (p.at < p.end → ⊥) → p.end ≡ least (repeats_in key) many
  unfolding repeats_in shares_in
  seeks-end p links room s n = ⊎_elim all first (eq-or-lt_of_le o.inside)
    where
      o : Sought key many p links room
      o = s.so_far

      room-left : p.end ≤ p.from + held
      room-left = s.whole n

      other : (i j : ℕ) → j < i → i < p.end → key i ≡ key j → ⊥
      other i j l h e =
          ⊎_elim (λ t. o.before i j (ltb-true _ _ t) l h e) (λ f. o.among i j (ltb-false _ _ f) (omega (arith, room-left)) l (omega arith) e)
          (either (ltb j p.from))

      none : (i : ℕ) → i < p.end → repeats_in key i ≡ false
      none = repeat-none key p.end apart
        where
          apart : (i j : ℕ) → i < p.end → j < p.end → key i ≡ key j → i ≡ j
          apart i j a b e =
              ⊎_elim (λ t. absurd (other j i (ltb-true i j t) b (sym e)))
              (λ f. ⊎_elim (λ t. absurd (other i j (ltb-true j i t) a e)) (λ g. omega (arith, ltb-false i j f, ltb-false j i g)) (either (ltb j i)))
              (either (ltb i j))

      all : p.end ≡ many → p.end ≡ least (repeats_in key) many
      all e = e ∙ sym (least-none (repeats_in key) many (λ i h. none i (omega arith)))

      first : p.end < many → p.end ≡ least (repeats_in key) many
      first h =
          let j = o.stops h in
          sym (least-stop (repeats_in key) p.end many h (least-none (repeats_in key) p.end none)
          (some-true (shares_in key p.end) p.end j.0 j.1.0 (rw j.1.1 (same_self (key j.0)))))
