-- No two results of asking where evidence lies are told alike.
-- Assumes nothing.
use Rattle.std.specs.Prelude.{Option, Result, Ok, Err}
use mathlib.Core.Path.{◌≡◌, sym, ap}
use Rattle.answers.specs.declared.refusing.Refusal.{Refusal}
use Rattle.answers.specs.declared.lying.Part.{Part}
use Rattle.answers.proofs.Refusals.{number_of}
use Rattle.answers.proofs.Tellings.{told-refuses}
use Rattle.answers.proofs.OneTelling.{told_one, part_one}
use Rattle.evidence.specs.Lying.{Shown, shown_by}

pub shown_one : (r t : Result (Option Part) Refusal) → shown_by r ≡ shown_by t → r ≡ t
shown_one (Ok p) (Ok q) e = ap Ok (part_one p q (ap (λ (s : Shown). s.lies) e))
shown_one (Ok p) (Err t) e = absurd (told-refuses t (number_of (ap (λ (s : Shown). s.answer) (sym e))))
shown_one (Err r) (Ok q) e = absurd (told-refuses r (number_of (ap (λ (s : Shown). s.answer) e)))
shown_one (Err r) (Err t) e = ap Err (told_one r t (ap (λ (s : Shown). s.answer) e))
