-- The laws of what is told of a file with how many records are good.
-- Assumes nothing.
use Rattle.std.specs.Prelude.{ℕ, Result, Ok, Err}
use mathlib.Core.Path.{◌≡◌, refl, sym, ap}
use Rattle.answers.specs.declared.told.Answer.{Answer}
use Rattle.answers.proofs.Refusals.{number_of}
use Rattle.answers.proofs.Tellings.{told-refuses}
use Rattle.answers.proofs.OneTelling.{told_one}
use Rattle.evidence.specs.declared.stopping.Stopped.{Stopped}
use Rattle.evidence.specs.Stopping.{Looked, looked, looked_by, stopped_at}

module _ (a b : Answer) (m n : ℕ) where
  pub looked-both : a ≡ b → m ≡ n → looked a m ≡ looked b n
  looked-both e f = rw (e, f) refl

  pub looked-answer : looked a m ≡ looked b n → a ≡ b
  looked-answer e = ap (λ (l : Looked). l.answer) e

  pub looked-count : looked a m ≡ looked b n → m ≡ n
  looked-count e = ap (λ (l : Looked). l.count) e

-- no two results are told alike
pub looked_one : (r t : Result ℕ Stopped) → looked_by r ≡ looked_by t → r ≡ t
looked_one (Ok m) (Ok n) e = ap Ok (looked-count _ _ m n e)
looked_one (Ok m) (Err t) e = absurd (told-refuses t.refusal (number_of (sym (looked-answer _ _ m t.good e))))
looked_one (Err r) (Ok n) e = absurd (told-refuses r.refusal (number_of (looked-answer _ _ r.good n e)))
looked_one (Err r) (Err t) e =
    let both : stopped_at r.refusal r.good ≡ stopped_at t.refusal t.good =
    rw (told_one r.refusal t.refusal (looked-answer _ _ r.good t.good e), looked-count _ _ r.good t.good e) refl in
    ap Err both
