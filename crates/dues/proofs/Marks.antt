-- The marks of requests: 41 at first, and what each tells that is 0, 41 or 42.
-- Assumes nothing.
use Rattle.std.specs.Prelude.{ℕ, ◌<◌, length, get_or, List}
use mathlib.Core.Path.{◌≡◌, sym, ◌∙◌}
use mathlib.Core.Logic.{⊎_elim, ◌⊎◌, inl, inr}
use lib.Dec.{leb, ltb}
use lib.ListN.{replicate, length-replicate, get_or-replicate}
use lib.Seq.{ext_get_or}
use Rattle.laws.specs.Tabulate.{tabulate}
use Rattle.laws.proofs.Bools.{either}
use Rattle.laws.proofs.Tabs.{tab-at, tab-length}
use Rattle.answers.specs.Answers.{first_told}
use Rattle.answers.proofs.Refusals.{told_same}
use Rattle.payers.specs.declared.members.Member.{Member}
use Rattle.payers.specs.Members.{owed_on}
use Rattle.payers.specs.Payers.{taken_from, over_number, member_of, due_number, due_tells}
use Rattle.dues.specs.Steps.{unmet, mark_says, marks_say, mark_tells}

-- so many marks of 41
pub marks-unmet : (n : ℕ) → replicate n 41 ≡ tabulate unmet n
unfolding unmet
marks-unmet n =
    ext_get_or 0 (replicate n 41) (tabulate unmet n) (length-replicate n 41 ∙ sym (tab-length unmet n))
    (λ i h. let l = rw (length-replicate {A = ℕ} n 41) at h in get_or-replicate n i 41 0 l ∙ sym (tab-at unmet n i l))

-- a mark is one of three numbers, as what is told of a request is
abbrev pub IsMark : ℕ → Type 0
IsMark mark = (mark ≡ 0) ⊎ ((mark ≡ 41) ⊎ (mark ≡ 42))

over-mark : (won owed : ℕ) → IsMark (over_number won owed)
unfolding over_number
over-mark won owed = ⊎_elim (λ t. inl (rw t)) (λ f. inr (inr (rw f))) (either (leb won owed))

pub due-mark : (key : ℕ → List ℕ) (won : ℕ → ℕ) (n : ℕ) (board : List Member) (i : ℕ) → IsMark (due_number key won n board i)
unfolding due_number
due-mark key won n board i =
    ⊎_elim (λ t. rw t (over-mark (taken_from key won n (key i)) (owed_on board (member_of board (key i))))) (λ f. inr (inl (rw f)))
    (either (ltb (member_of board (key i)) (length board)))

-- such a mark tells itself
says-number : (i mark : ℕ) → IsMark mark → mark_says i mark ≡ due_tells i mark
unfolding mark_says due_tells
says-number i mark is = ⊎_elim (λ e. rw e) (λ o. ⊎_elim (λ e. rw e) (λ e. rw e) o) is

pub marks-told : (room : List ℕ) (n : ℕ) → ((i : ℕ) → i < n → IsMark (get_or room i 0)) → first_told (marks_say room) n ≡ first_told (mark_tells room) n
unfolding marks_say mark_tells
marks-told room n each = told_same (marks_say room) (mark_tells room) n (λ i h. says-number i (get_or room i 0) (each i h))
