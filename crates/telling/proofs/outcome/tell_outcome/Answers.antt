-- The answer's five, then the outcome's.
use Prim.Native.Nat.{ℕ}
use Rattle.telling.proofs.Numbers.{five-of}
use mathlib.Core.List.{List, ◌∷◌}
use mathlib.Core.Path.{refl, ap}
use Rattle.telling.proofs.outcome.tell_outcome.Goals as goal

pub returns : goal.returns
returns c =
    let t = c.args.told in
    record {
      value = refl;
      answer_after = rw c.numbers.ensures (ap (λ (l : List ℕ). t.answer.side ∷ t.answer.number ∷ t.answer.rec ∷ t.answer.item ∷ t.answer.code ∷ l) (five-of t.outcome));
    }
