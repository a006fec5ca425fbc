-- Members that have an earlier one's payer.
-- Assumes nothing.
use Prim.Native.Nat.{ℕ, ◌+◌, ◌<◌}
use mathlib.Core.Bool.{true}
use mathlib.Core.List.{List}
use mathlib.Core.Path.{◌≡◌, refl, sym}
use mathlib.Core.Logic.{⊎_elim}
use native.Mathlib.Nat.{eq-or-lt_of_le}
use native.Mathlib.Omega.{arith}
use borrow.Author.Tests.{ltb-true}
use lib.ListN.{length}
use Rattle.laws.specs.Least.{least, some, number_in}
use Rattle.laws.proofs.Leasts.{least-is, least-none, least-before, some-true}
use Rattle.laws.proofs.Leasts as leasts
use Rattle.laws.proofs.Parts.{same-equal, same_self}
use Rattle.keys.specs.Keys.{shares_in, repeats_in, Distinct}
use Rattle.keys.proofs.Distinct.{distinct-if, repeat-none}
use Rattle.payers.specs.declared.members.Member.{Member}
use Rattle.payers.specs.Members.{payer_on, repeat_on, repeat_number}
use Rattle.board.specs.First.{Repeats}

module _ (board : List Member) (k : ℕ) where
  -- a member repeats an earlier one
  pub repeats-if : Repeats board k → repeats_in (payer_on board) k ≡ true
  unfolding repeats_in shares_in
  repeats-if x = some-true (shares_in (payer_on board) k) k x.earlier x.before (rw x.same (same_self (payer_on board x.earlier)))

  pub repeats-is : repeats_in (payer_on board) k ≡ true → Repeats board k
  unfolding repeats_in shares_in some
  repeats-is t =
      let shares = shares_in (payer_on board) k in
      let h : least shares k < k = ltb-true (least shares k) k t in
      record { earlier = least shares k; before = h; same = same-equal (payer_on board k) (payer_on board (least shares k)) ((least-is shares k).holds h) }

-- the number of the first that does, and 0 where none does
pub number-here : (board : List Member) (k : ℕ) → k < length board → repeat_on board ≡ k → repeat_number board ≡ k + 1
unfolding repeat_number
number-here board k h e = rw e (leasts.number-here (length board) k h)

pub number-none : (board : List Member) → length board ≡ repeat_on board → repeat_number board ≡ 0
unfolding repeat_number
number-none board e = rw (← e) (leasts.number-none (length board))

-- no member is told to repeat an earlier one: payers differ
pub payers-differ : (board : List Member) → repeat_number board ≡ 0 → Distinct (payer_on board) (length board)
unfolding repeat_number number_in repeat_on
payers-differ board e = ⊎_elim none some-do (eq-or-lt_of_le (least-is (repeats_in (payer_on board)) (length board)).within)
  where
    none : least (repeats_in (payer_on board)) (length board) ≡ length board → Distinct (payer_on board) (length board)
    none all = distinct-if (payer_on board) (length board) (least-before (repeats_in (payer_on board)) (length board) all)

    some-do : least (repeats_in (payer_on board)) (length board) < length board → Distinct (payer_on board) (length board)
    some-do h = absurd (let z = number-here board (repeat_on board) h refl in omega arith)

pub differ-number : (board : List Member) → Distinct (payer_on board) (length board) → repeat_number board ≡ 0
unfolding repeat_on
differ-number board d = number-none board (sym (least-none (repeats_in (payer_on board)) (length board) (repeat-none (payer_on board) (length board) d)))
