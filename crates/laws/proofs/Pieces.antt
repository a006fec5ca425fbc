-- Parts of lists put one behind the other, and a list is the pieces that stand in it.
-- Assumes nothing.
use Prim.Native.Nat.{ℕ, ◌+◌, ◌≤◌}
use mathlib.Core.Bool.{true}
use mathlib.Core.List.{List, ◌++◌}
use mathlib.Core.Path.{◌≡◌, sym, ◌∙◌, ap}
use native.Mathlib.Omega.{arith}
use lib.ListN.{length, take, drop, length-drop, take-append-drop}
use lib.Seq.{take-append-le, drop-append-le, take-append-add, drop-append-add, take_all, take-add, take_at, drop_at, drop-drop}
use Rattle.laws.specs.Part.{part, begins}
use Rattle.laws.proofs.Parts.{part_length, same-equal}

module _ (p q : List ℕ) where
  -- what ends within the first is a part of it
  pub part-within : (a c : ℕ) → a + c ≤ length p → part a c (p ++ q) ≡ part a c p
  unfolding part
  part-within a c h = rw (drop-append-le a p q (omega arith), take-append-le c (drop a p) q (rw length-drop (omega arith)))

  -- what begins behind it is a part of the second
  pub part-behind : (n a c : ℕ) → length p ≡ n → part (n + a) c (p ++ q) ≡ part a c q
  unfolding part
  part-behind n a c e = rw (← e, drop-append-add p q a)

  -- and from the front on, the first and what follows of the second
  pub part-both : (n c : ℕ) → length p ≡ n → part 0 (n + c) (p ++ q) ≡ p ++ part 0 c q
  unfolding part
  part-both n c e = rw (← e) (take-append-add p q c)

  pub part-first : (n : ℕ) → length p ≡ n → part 0 n (p ++ q) ≡ p
  unfolding part
  part-first n e = take_at p q n e

-- one piece and what is behind it, or the last piece
pub piece_then : (at w : ℕ) (s x rest : List ℕ) → part at w s ≡ x → drop (at + w) s ≡ rest → drop at s ≡ x ++ rest
unfolding part
piece_then at w s x rest e f = sym (take-append-drop w (drop at s)) ∙ rw (drop-drop w at s, e, f)

pub piece-last : (at w : ℕ) (s x : List ℕ) → length s ≡ at + w → part at w s ≡ x → drop at s ≡ x
unfolding part
piece-last at w s x l e = sym (take_all w (drop at s) (rw length-drop (omega arith))) ∙ e

-- a piece among others
pub piece-at : (a x rest : List ℕ) (at w : ℕ) → length a ≡ at → length x ≡ w → part at w (a ++ (x ++ rest)) ≡ x
unfolding part
piece-at a x rest at w e f = rw (drop_at a (x ++ rest) at e) (take_at x rest w f)

-- a part in two
pub part-two : (at w v : ℕ) (s : List ℕ) → part at (w + v) s ≡ part at w s ++ part (at + w) v s
unfolding part
part-two at w v s = rw (take-add w v (drop at s), drop-drop w at s)

-- the bytes of another from a place on
pub begins-part : (at w from : ℕ) (s o : List ℕ) → at + w ≤ length s → begins (part at w s) (drop from o) ≡ true → part at w s ≡ part from w o
unfolding begins part
begins-part at w from s o h t =
    same-equal (part at w s) (part 0 (length (part at w s)) (drop from o)) t ∙ ap (λ (v : ℕ). take v (drop from o)) (part_length at w s h)
