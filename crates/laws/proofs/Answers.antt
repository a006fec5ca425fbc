-- A contract that says what the answer is allows no other.
-- Assumes nothing.
use mathlib.Core.Path.{◌≡◌, sym, ◌∙◌}

-- contracts of the form `r ≡ f x`, of an answer or of what lent memory holds at exit
pub one_answer : {X A : Type 0} (f : X → A) (x : X) (r t : A) → r ≡ f x → t ≡ f x → r ≡ t
one_answer f x r t is also = is ∙ sym also
