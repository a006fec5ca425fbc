-- What of a part there is room for.
-- Assumes nothing.
use Prim.Native.Nat.{ℕ, ◌-◌, ◌≤◌}
use mathlib.Core.Bool.{true, false}
use mathlib.Core.List.{List, ◌++◌, append-nil}
use mathlib.Core.Path.{◌≡◌, sym, ◌∙◌, ap}
use mathlib.Core.Logic.{⊎_elim}
use native.Mathlib.Nat.{min-le_left, min-le_right, le_of_lt, sub_self, add-sub_of_le, zero-add}
use native.Mathlib.Omega.{arith}
use borrow.Author.Tests.{leb-true, leb-false}
use lib.Dec.{leb}
use lib.ListN.{length, take, drop, length-take, length-append, length-drop}
use lib.Seq.{take_all, length-take-le, take-append-le, take-append-add}
use Rattle.laws.specs.Stored.{stored}
use Rattle.laws.proofs.Bools.{either}
use Rattle.laws.proofs.Stores.{stored_next}
use Rattle.answers.specs.Storing.{at_front}

module _ (n : ℕ) (p : List ℕ) where
  -- no more than the part
  pub fit-part : length (take n p) ≤ length p
  fit-part = rw (length-take n p) (min-le_right n (length p))

  -- no more than there is room
  pub fit-room : length (take n p) ≤ n
  fit-room = rw (length-take n p) (min-le_left n (length p))

-- what fits of two parts is what fits of the first, and what then fits of the second
pub fit-both : (n : ℕ) (s p : List ℕ) → take n (s ++ p) ≡ take n s ++ take (n - length (take n s)) p
fit-both n s p = ⊎_elim full more (either (leb n (length s)))
  where
    full : leb n (length s) ≡ true → take n (s ++ p) ≡ take n s ++ take (n - length (take n s)) p
    full t =
        let l = leb-true n (length s) t in
        rw (length-take-le n s l, sub_self n) (take-append-le n s p l ∙ sym (append-nil (take n s)))

    more : leb n (length s) ≡ false → take n (s ++ p) ≡ take n s ++ take (n - length (take n s)) p
    more f =
        let l = le_of_lt (leb-false n (length s) f) in
        rw (take_all n s l) (ap (λ m. take m (s ++ p)) (sym (add-sub_of_le l)) ∙ take-append-add s p (n - length s))

-- a room that bytes were put into is as long as it was
pub front_length : (s room : List ℕ) → length (at_front (take (length room) s) room) ≡ length room
front_length s room =
    rw (length-append (take (length room) s) (drop (length (take (length room) s)) room), length-drop) (add-sub_of_le (fit-room (length room) s))

-- what is stored behind what lies at the front of a room lies at its front with it
pub front-next : (x y old : List ℕ) → stored (length x) y (at_front x old) ≡ at_front (x ++ y) old
front-next x y old = rw (zero-add (length x), zero-add (length (x ++ y))) at (stored_next 0 x old (omega arith) y)
