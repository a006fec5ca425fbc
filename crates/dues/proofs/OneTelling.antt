-- No two results are told alike, so what is told of a result says which one it is.
-- Assumes nothing.
use Rattle.std.specs.Prelude.{ℕ, List, Result, Ok, Err}
use mathlib.Core.Path.{◌≡◌, sym, ap}
use Rattle.answers.specs.declared.of_two.OfTwo.{OfTwo}
use Rattle.answers.proofs.Refusals.{number_of}
use Rattle.answers.proofs.Tellings.{two-refuses}
use Rattle.answers.proofs.OneTelling.{two_one}
use Rattle.dues.specs.declared.ready.Ready.{Ready}
use Rattle.dues.specs.Steps.{Readied, readied_by, Posted, posted_by}

module _ (before : List ℕ) where
  pub readied_one : (r t : Result Ready OfTwo) → readied_by before r ≡ readied_by before t → r ≡ t
  readied_one (Ok k) (Ok l) e = λ i. Ok record { n = (e i).n; dates = (e i).dates }
  readied_one (Ok k) (Err t) e = absurd (two-refuses t (number_of (ap (λ (z : Readied). z.answer) (sym e))))
  readied_one (Err r) (Ok l) e = absurd (two-refuses r (number_of (ap (λ (z : Readied). z.answer) e)))
  readied_one (Err r) (Err t) e = ap Err (two_one r t (ap (λ (z : Readied). z.answer) e))

  pub posted_one : (r t : Result (List ℕ) OfTwo) → posted_by before r ≡ posted_by before t → r ≡ t
  posted_one (Ok a) (Ok b) e = ap Ok (ap (λ (z : Posted). z.dates) e)
  posted_one (Ok a) (Err t) e = absurd (two-refuses t (number_of (ap (λ (z : Posted). z.answer) (sym e))))
  posted_one (Err r) (Ok b) e = absurd (two-refuses r (number_of (ap (λ (z : Posted). z.answer) e)))
  posted_one (Err r) (Err t) e = ap Err (two_one r t (ap (λ (z : Posted). z.answer) e))
