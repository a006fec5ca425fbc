-- The walk hands out exactly the data records 1 to n in order, then the end at every later place; a refused file hands out nothing.
-- Assumes nothing.
use Prim.Native.Nat.{ℕ, ◌+◌, ◌*◌, ◌≤◌, ◌<◌}
use mathlib.Core.List.{List}
use mathlib.Core.Path.{◌≡◌, refl, sym, ap, ◌∙◌}
use native.Mathlib.Omega.{arith}
use lib.ListN.{length}
use Rattle.laws.specs.Part.{part}
use Rattle.kinds.specs.declared.of_files.Kind.{Kind}
use Rattle.std.specs.Prelude.{Some, Result, Ok, Err}
use Rattle.kinds.specs.Kinds.{fixed_of, kind_of}
use Rattle.answers.specs.declared.told.Answer.{Answer}
use Rattle.answers.specs.declared.refusing.Refusal.{Refusal}
use Rattle.answers.specs.Answers.{accepted}
use Rattle.answers.specs.Refusing.{told_by, answer_of}
use Rattle.answers.proofs.Tellings.{told-refuses, bad}
use Rattle.records.specs.Records.{record_at, record_of, data_of}
use Rattle.reader.specs.Reading.{read_as, read_of}
use Rattle.reader.proofs.Accepted.{read_named_lem}
use Rattle.records.proofs.Places.{record-inside}
use Rattle.walker.specs.Steps.{Walked, None, Record, End}
use Rattle.walker.specs.Walks.{named_by, step_of, walked, hand_of, walk_of}
use Rattle.walker.specs.Walkers.{handed}
use Rattle.walker.proofs.Steps.{step-record, step_end, hand-refused, hand-good}

-- *Refused*: the reader's answer, at every place
pub walk_refused : (kind : ℕ) (s : List ℕ) (i : ℕ) → ((read_of kind s).number ≡ 0 → ⊥) → walk_of kind s i ≡ walked (read_of kind s) None
unfolding walk_of
walk_refused kind s i ne = hand-refused s i kind (read_of kind s) ne

module _ (kind : ℕ) (k : Kind) (named : kind_of kind ≡ Some k) where
  -- once the reader has accepted, the step is the kind's
  pub hand-step : (s : List ℕ) (i : ℕ) (answer : Answer) → answer.number ≡ 0 → hand_of s i kind answer ≡ walked answer (step_of k s i)
  hand-step s i answer z = rw (hand-good s i kind answer z, named)

  module _ (s : List ℕ) (good : read_as k s ≡ accepted) where
    pub read-accepted : read_of kind s ≡ accepted
    read-accepted = read_named_lem kind s k named ∙ good

    walk_step : (i : ℕ) → walk_of kind s i ≡ walked accepted (step_of k s i)
    unfolding walk_of
    walk_step i = rw (read-accepted) (hand-step s i accepted refl)

    -- what is handed out at a place below n is data record i + 1: its number, and where in the file its bytes lie
    pub record Handed (i : ℕ) : Type 0 where
      pub start : ℕ
      pub size : ℕ
      pub told : walk_of kind s i ≡ walked accepted (Record (i + 1) start size)
      pub bytes : part start size s ≡ record_of k s (i + 1)
      pub inside : start + size ≤ length s

    -- *Records*
    pub walk-records : (i : ℕ) → i < data_of k s → Handed i
    unfolding record_at
    walk-records i h = record {
      start = (i + 1) * (fixed_of k).size;
      size = (fixed_of k).size;
      told = walk_step i ∙ ap (walked accepted) (step-record k s i h);
      bytes = refl;
      inside = record-inside k s (i + 1) (omega arith);
    }

    -- *End*
    pub walk_end : (i : ℕ) → data_of k s ≤ i → walk_of kind s i ≡ walked accepted End
    walk_end i h = walk_step i ∙ ap (walked accepted) (step_end k s i h)

-- what the reader's answer and a kind hand out is what the kind, or the refusal that is kept, hands out
pub handed-is : (kind : ℕ) (s : List ℕ) (i : ℕ) (known : Result Kind Refusal) → answer_of known ≡ read_of kind s → named_by kind known → handed known s i ≡ walk_of kind s i
unfolding walk_of
handed-is kind s i (Ok k) told named = rw (← told) (sym (hand-step kind k named s i accepted refl))
handed-is kind s i (Err r) told named = rw (← told) (sym (hand-refused s i kind (told_by r) (told-refuses r)))

-- what is refused at one place is refused at every other
pub refused-ever : (kind : ℕ) (s : List ℕ) (r : Refusal) (i j : ℕ) → walked (told_by r) None ≡ walk_of kind s i → walked (told_by r) None ≡ walk_of kind s j
unfolding walk_of hand_of
refused-ever kind s r i j e =
    let a : told_by r ≡ read_of kind s = ap (λ (w : Walked). w.answer) e in
    ap (λ x. walked x None) a ∙ sym (walk_refused kind s j (bad r (read_of kind s) a))
