-- A file that is filled from the front: what is stored next follows what stands there.
-- Assumes nothing.
use Prim.Native.Nat.{ℕ, ◌+◌, ◌*◌, ◌≤◌}
use mathlib.Core.List.{List, ◌++◌, append_assoc, append-nil}
use mathlib.Core.Path.{◌≡◌, sym, ◌∙◌}
use native.Mathlib.Nat.{one-mul, suc-mul, add_comm}
use native.Mathlib.Numerals.{add-one}
use lib.ListN.{length, take, drop, length-append, take-append-drop}
use lib.Seq.{take_at, drop-append-add, drop-drop, length-take-le}
use Rattle.laws.specs.Joined.{joined}
use Rattle.laws.proofs.Joins.{joined-start, joined-more, joined_length}

pub store-next :
    (f rec o : List ℕ) (at : ℕ) → length f ≡ at →
    take at (f ++ drop at o) ++ rec ++ drop (at + length rec) (f ++ drop at o) ≡ (f ++ rec) ++ drop (at + length rec) o
store-next f rec o at e = rw (take_at f (drop at o) at e, ← e, drop-append-add, drop-drop)

-- data records of one width behind a header: i of them so far
abbrev pub Filled : ℕ → (ℕ → List ℕ) → List ℕ → ℕ → List ℕ
Filled w g o i = take w o ++ joined g i ++ drop ((i + 1) * w) o

module _ (w : ℕ) (g : ℕ → List ℕ) (each : (i : ℕ) → length (g i) ≡ w) (o : List ℕ) (long : w ≤ length o) where
  front_length : (i : ℕ) → length (take w o ++ joined g i) ≡ (i + 1) * w
  front_length i =
      length-append (take w o) (joined g i) ∙ rw (length-take-le w o long, joined_length g w each i, add-one, suc-mul) (add_comm w (i * w))

  pub data-start : o ≡ Filled w g o 0
  data-start = sym (rw (joined-start g, one-mul-one, append-nil) (take-append-drop w o))
    where
      one-mul-one : (0 + 1) * w ≡ w
      one-mul-one = one-mul w

  pub data-next :
      (i : ℕ) → take ((i + 1) * w) (Filled w g o i) ++ g i ++ drop ((i + 1) * w + length (g i)) (Filled w g o i) ≡ Filled w g o (i + 1)
  data-next i =
      store-next (take w o ++ joined g i) (g i) o ((i + 1) * w) (front_length i) ∙
      rw (append_assoc (take w o) (joined g i) (g i), ← joined-more g i, each i, ← suc-mul (i + 1) w, ← add-one (i + 1))
