-- A text that is put behind another.
-- Assumes nothing.
use Prim.Native.Nat.{ℕ, ◌+◌, ◌≤◌}
use mathlib.Core.List.{List, [], ◌∷◌, ◌++◌, append_assoc}
use mathlib.Core.Path.{◌≡◌, sym, ◌∙◌, ap}
use native.Mathlib.Nat.{zero-add}
use lib.ListN.{length, take, drop, length-append}
use lib.Seq.{take_at, length-take-le}
use Rattle.laws.specs.Joined.{joined}
use Rattle.laws.proofs.Joins.{joined-more}
use Rattle.laws.specs.Stored.{stored}
use Rattle.numbers.specs.Numbers.{digits_of}
use Rattle.numbers.proofs.Values.{digits-length}
use Rattle.posting.specs.Decimal.{width_of, decimal}
use Rattle.posting.specs.Lines.{number_then}

-- what was stored at the end of a text, taken with the text
pub put_taken : (at : ℕ) (x old : List ℕ) → at ≤ length old → take (at + length x) (stored at x old) ≡ take at old ++ x
put_taken at x old fits =
    take_at (take at old ++ x) (drop (at + length x) old) (at + length x)
    (length-append (take at old) x ∙ rw (length-take-le at old fits))

-- a number's digits and what follows them
pub number_put :
    (n end w at : ℕ) (old text : List ℕ) → w ≡ width_of n → at ≤ length old → take at old ≡ text →
    take (at + w) (stored at (digits_of w n) old) ++ (end ∷ []) ≡ text ++ number_then n end
unfolding number_then decimal
number_put n end w at old text wide fits front =
    let digits = digits_of w n in
    let taken : take (at + w) (stored at digits old) ≡ text ++ digits
    = ap (λ k. take (at + k) (stored at digits old)) (sym (digits-length w n)) ∙ (put_taken at digits old fits ∙ ap (λ (x : List ℕ). x ++ digits) front) in
    ap (λ (x : List ℕ). x ++ (end ∷ [])) taken ∙
    (append_assoc text digits (end ∷ []) ∙ ap (λ k. text ++ (digits_of k n ++ (end ∷ []))) wide)

-- a loop that puts one list behind the other
pub line_more :
    (f : ℕ → List ℕ) (i : ℕ) (old now new : List ℕ) → now ≡ old ++ joined f i → new ≡ now ++ f i → new ≡ old ++ joined f (i + 1)
line_more f i old now new so next = next ∙ rw (so, joined-more f i) (append_assoc old (joined f i) (f i))

-- at the front
pub put_front : (x old : List ℕ) → stored 0 x old ≡ x ++ drop (length x) old
put_front x old = rw zero-add
