-- The laws of `stored`.
-- Assumes nothing.
use Prim.Native.Nat.{ℕ, ◌+◌, ◌-◌, ◌≤◌, ◌<◌}
use mathlib.Core.List.{List, [], ◌++◌, append_assoc, append-nil}
use mathlib.Core.Path.{◌≡◌, sym, ◌∙◌, ap}
use native.Mathlib.Nat.{le_refl, le_of_eq, add_assoc, zero-add, add-zero}
use native.Mathlib.Numerals.{add-one}
use native.Mathlib.Omega.{arith}
use lib.ListN.{length, get_or, set, take, drop, length-append, length-drop, drop_of_length-le, take-append-drop}
use lib.Seq.{paste, paste-suc, take-length, take_at, take_all, take-append_seam, drop_at, drop-append-add, drop-append_seam, drop-drop, length-take-le}
use Rattle.laws.specs.Part.{part}
use Rattle.laws.specs.Stored.{stored}
use Rattle.laws.proofs.Parts.{rest, part-take}
use Rattle.laws.proofs.Pieces.{part-within, part-behind}

-- all from a place on, with something copied to its front, is what is stored at the place
pub copied :
    (at : ℕ) (x room last : List ℕ) → last ≡ take (length x) x ++ drop (length x) (take (length room - at) (drop at room)) →
    take at room ++ (last ++ drop (length room - at) (drop at room)) ≡ stored at x room
copied at x room last e =
    rw (e, take-length x, rest at room, drop-drop (length x) at room, none, append-nil)
    (sym (append_assoc (take at room) x (drop (at + length x) room)))
  where
    none : drop (length room - at) (drop at room) ≡ []
    none = drop_of_length-le (drop at room) {i = length room - at} (rw length-drop (le_refl (length room - at)))

-- what is stored behind what was stored
module _ (at : ℕ) (x old : List ℕ) (fits : at ≤ length old) where
  front_length : length (take at old ++ x) ≡ at + length x
  front_length = length-append (take at old) x ∙ rw (length-take-le at old fits)

  pub stored_next : (y : List ℕ) → stored (at + length x) y (stored at x old) ≡ stored at (x ++ y) old
  stored_next y =
      rw (
        take_at (take at old ++ x) (drop (at + length x) old) (at + length x) front_length,
        ← front_length,
        drop-append-add,
        drop-drop,
        front_length,
        length-append x y,
        ← add_assoc at (length x) (length y),
        append_assoc (take at old) x y,
      )

-- one piece behind the other
pub stored-then :
    (at p : ℕ) (x y old new last : List ℕ) → new ≡ stored at x old → last ≡ stored p y new → p ≡ at + length x → at ≤ length old →
    last ≡ stored at (x ++ y) old
stored-then at p x y old new last a b e fits = b ∙ rw (a, e) (stored_next at x old fits y)

-- nothing stored, and as much as there is
pub stored-none : (at : ℕ) (old : List ℕ) → old ≡ stored at [] old
stored-none at old = rw (append-nil, add-zero at) (sym (take-append-drop at old))

pub stored-all : (x old : List ℕ) → length x ≡ length old → stored 0 x old ≡ x
stored-all x old e = rw (zero-add (length x), drop_of_length-le old {i = length x} (le_of_eq (sym e))) (append-nil x)

-- stored over something as long
pub stored-over :
    (at : ℕ) (x y z b : List ℕ) → length x ≡ at → length y ≡ length b → stored at b (x ++ (y ++ z)) ≡ x ++ (b ++ z)
stored-over at x y z b e f =
    rw (← e, take-append_seam x (y ++ z), drop-append-add x (y ++ z) (length b), ← f, drop-append_seam y z) (append_assoc x b z)

-- a loop that stores the bytes of x, one after the other
pub paste_more :
    (old x text : List ℕ) (at i v : ℕ) → text ≡ paste old at x i → v ≡ get_or x i 0 → at + i < length old → i < length x →
    set text (at + i) v ≡ paste old at x (i + 1)
paste_more old x text at i v e q fits inside = rw (e, q, add-one) (paste-suc old at x i 0 fits inside)

pub paste_all : (old x text : List ℕ) (at i : ℕ) → text ≡ paste old at x i → length x ≡ i → text ≡ stored at x old
paste_all old x text at i e l = e ∙ rw (← l, take-length x)

-- what is stored is read back, and all before and behind it is as it was
module _ (at : ℕ) (x old : List ℕ) (fits : at + length x ≤ length old) where
  taken : length (take at old) ≡ at
  taken = length-take-le at old (omega arith)

  front : length (take at old ++ x) ≡ at + length x
  front = length-append (take at old) x ∙ rw taken

  -- a lent list stays as long as it is
  pub stored-length : length (stored at x old) ≡ length old
  stored-length = length-append (take at old ++ x) (drop (at + length x) old) ∙ rw (front, length-drop) (omega arith)

  pub stored_here : (w : ℕ) → length x ≡ w → part at w (stored at x old) ≡ x
  unfolding part
  stored_here w e =
      let f = front in
      part-within (take at old ++ x) (drop (at + length x) old) at w (omega arith) ∙
      (ap (take w) (drop_at (take at old) x at taken) ∙ take_all w x (omega arith))

  pub stored-before : (a c : ℕ) → a + c ≤ at → part a c (stored at x old) ≡ part a c old
  stored-before a c h =
      let f = front in
      let t = taken in
      part-within (take at old ++ x) (drop (at + length x) old) a c (omega arith) ∙
      (part-within (take at old) x a c (omega arith) ∙ part-take a c at old h (omega arith))

  pub stored-behind : (a c : ℕ) → at + length x ≤ a → part a c (stored at x old) ≡ part a c old
  unfolding part
  stored-behind a c h =
      let n = at + length x in
      let e : a ≡ n + (a - n) = omega arith in
      rw e (part-behind (take at old ++ x) (drop n old) n (a - n) c front ∙ ap (take c) (drop-drop (a - n) n old))
