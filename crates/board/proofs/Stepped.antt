-- What follows from what the passes and the steps between them say, each of which runs only where none before it refused: at the end the board is told and settled as
-- the definitions say.
-- Assumes nothing.
use Prim.Native.Nat.{ℕ, ◌<◌}
use mathlib.Core.Bool.{true, false, cond}
use mathlib.Core.List.{List, ◌++◌}
use mathlib.Core.Path.{◌≡◌, sym, ◌∙◌, ap}
use mathlib.Core.Logic.{⊎_elim}
use lib.ListN.{get_or, drop}
use Rattle.laws.specs.Tabulate.{tabulate}
use Rattle.laws.proofs.Bools.{either}
use Rattle.laws.proofs.Tabs.{fill-at}
use Rattle.answers.specs.declared.told.Answer.{Answer}
use Rattle.answers.specs.Answers.{refuses, first_told, ◌then◌}
use Rattle.answers.proofs.Refusals.{number_of, refuses-zero, refuses-other, then-first, then-zero, told_same}
use Rattle.payers.specs.declared.members.Member.{Member}
use Rattle.payers.specs.Members.{repeat_number, repeat_tells}
use Rattle.payers.specs.Payers.{members_after, due_number, due_tells, dues_tell_at, dues_tell}
use Rattle.payers.specs.Turns.{dues_key, listed}
use Rattle.dues.specs.Steps.{unmet, marks_say, mark_tells}
use Rattle.dues.proofs.Marks.{due-mark, marks-told}
use Rattle.board.specs.Passing.{Marks}
use Rattle.board.proofs.Stages.{repeat-good}

-- `a` is what was told before of the pair; n requests stand in the file, and the list has what was taken of each
module _ (a : Answer) (n : ℕ) (request taken : List ℕ) (board : List Member) where
  -- what is told of the requests, what is told of the whole, 43 first, and the members afterwards
  abbrev dues : Answer
  dues = dues_tell (dues_key request) (listed taken) n board

  abbrev whole : Answer
  whole = (repeat_tells (repeat_number board) then a) then dues

  abbrev after : List Member
  after = members_after (dues_key request) (listed taken) n board

  -- after the search for a payer that an earlier member has
  module _ (found : Answer) (sought : found ≡ repeat_tells (repeat_number board)) where
    -- what is told before the requests are looked at
    abbrev first : Answer
    first = found then a

    all-differ : refuses first ≡ false → repeat_number board ≡ 0
    all-differ f = repeat-good (repeat_number board) (number_of (sym sought) ∙ (then-zero found a (refuses-zero first f)).0)

    -- after the requests were marked, and the members met
    module _ (room room₁ room₂ : List ℕ) (unmarked : refuses first ≡ false → room₁ ≡ tabulate unmet n ++ drop n room) (met : refuses first ≡ false → Marks n board request taken room₁ room₂) where
      unmet-yet : refuses first ≡ false → (i : ℕ) → i < n → get_or room₁ i 0 ≡ 41
      unfolding unmet
      unmet-yet f i h = ap (λ (l : List ℕ). get_or l i 0) (unmarked f) ∙ fill-at unmet room n i h

      -- each mark is what is told of its request
      marks-are : refuses first ≡ false → (i : ℕ) → i < n → get_or room₂ i 0 ≡ due_number (dues_key request) (listed taken) n board i
      marks-are f i h = met f (all-differ f) i h (unmet-yet f i h)

      requests-told : refuses first ≡ false → first_told (marks_say room₂) n ≡ dues
      unfolding dues_tell dues_tell_at mark_tells
      requests-told f =
          marks-told room₂ n (λ i h. rw (marks-are f i h) (due-mark (dues_key request) (listed taken) n board i)) ∙
          told_same (mark_tells room₂) (dues_tell_at (dues_key request) (listed taken) n board) n (λ i h. ap (due_tells i) (marks-are f i h))

      -- after the marks were looked through
      module _ (marks : Answer) (looked : refuses first ≡ false → marks ≡ first_told (marks_say room₂) n) where
        abbrev second : Answer
        second = first then marks

        pub told : second ≡ whole
        told = ⊎_elim bad good (either (refuses first)) ∙ ap (λ (z : Answer). (z then a) then dues) sought
          where
            bad : refuses first ≡ true → second ≡ (first then dues)
            bad t = then-first first marks (refuses-other first t) ∙ sym (then-first first dues (refuses-other first t))

            good : refuses first ≡ false → second ≡ (first then dues)
            good f = ap (λ (z : Answer). first then z) (looked f ∙ requests-told f)

        -- after the members were settled
        module _ (board₁ : List Member) (rests : refuses second ≡ true → board₁ ≡ board) (settled : refuses second ≡ false → board₁ ≡ after) where
          pub settled-board : board₁ ≡ cond (refuses whole) board after
          settled-board = ⊎_elim (λ t. rests t ∙ rw (← told, t)) (λ f. settled f ∙ rw (← told, f)) (either (refuses second))
