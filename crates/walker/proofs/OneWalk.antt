-- No two results of a walk are told alike, and there is one walker that is opened on a lent file.
-- Assumes nothing.
use Rattle.std.specs.Prelude.{ℕ, List, Option, Some, None, Result, Ok, Err}
use mathlib.Core.Path.{◌≡◌, refl, sym, ap, ◌∙◌}
use denote.Ref.{Bor}
use Rattle.kinds.specs.declared.of_files.Kind.{Kind}
use Rattle.kinds.specs.Kinds.{kind_of}
use Rattle.answers.specs.declared.refusing.Refusal.{Refusal}
use Rattle.answers.specs.Refusing.{answer_of}
use Rattle.answers.proofs.Refusals.{number_of}
use Rattle.answers.proofs.Tellings.{told-refuses}
use Rattle.answers.proofs.OneTelling.{told_one}
use Rattle.walker.specs.declared.walking.Record.{Record}
use Rattle.walker.specs.declared.walker.Walker.{Walker}
use Rattle.walker.specs.Steps.{Step, Walked}
use Rattle.walker.specs.Walks.{step_by, walked_by, named_by}
use Rattle.walker.specs.Walkers.{open_on}

step_back : Step → Option Record
step_back Step.None = None
step_back (Step.Record number start size) = Some record { number = number; start = start; size = size }
step_back Step.End = None

step_told : (r : Option Record) → step_back (step_by r) ≡ r
unfolding step_back
step_told (Some r) = refl
step_told None = refl

pub walked_one : (r t : Result (Option Record) Refusal) → walked_by r ≡ walked_by t → r ≡ t
walked_one (Ok p) (Ok q) e = ap Ok (sym (step_told p) ∙ (ap step_back (ap (λ (w : Walked). w.step) e) ∙ step_told q))
walked_one (Ok p) (Err t) e = absurd (told-refuses t (number_of (ap (λ (w : Walked). w.answer) (sym e))))
walked_one (Err r) (Ok q) e = absurd (told-refuses r (number_of (ap (λ (w : Walked). w.answer) e)))
walked_one (Err r) (Err t) e = ap Err (told_one r t (ap (λ (w : Walked). w.answer) e))

known_one : (kind : ℕ) (r t : Result Kind Refusal) → answer_of r ≡ answer_of t → named_by kind r → named_by kind t → r ≡ t
known_one kind (Ok k) (Ok l) e m n = let same : k ≡ l = cc in ap Ok same
known_one kind (Ok k) (Err t) e m n = absurd (told-refuses t (number_of (sym e)))
known_one kind (Err r) (Ok l) e m n = absurd (told-refuses r (number_of e))
known_one kind (Err r) (Err t) e m n = ap Err (told_one r t e)

pub opened_one : (kind : ℕ) (lent : Bor (List ℕ)) (w v : Walker) → open_on kind lent w → open_on kind lent v → w ≡ v
opened_one kind lent w v o p =
    let file : w.file ≡ v.file = o.file ∙ sym p.file in
    let place : w.place ≡ v.place = o.place ∙ sym p.place in
    let known : w.kind ≡ v.kind = known_one kind w.kind v.kind (o.told ∙ sym p.told) o.named p.named in
    λ i. record { file = file i; place = place i; kind = known i }
