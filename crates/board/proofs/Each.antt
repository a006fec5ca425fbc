-- Each member after an accepted posting.
-- Assumes nothing.
use Prim.Native.Nat.{ℕ, ◌-◌, ◌≤◌, ◌<◌}
use mathlib.Core.Bool.{true, false}
use mathlib.Core.List.{List}
use mathlib.Core.Path.{◌≡◌, refl, ◌∙◌, ap}
use mathlib.Core.Logic.{⊎_elim}
use native.Mathlib.Omega.{arith}
use lib.ListN.{length, get_or}
use Rattle.laws.proofs.Bools.{either}
use Rattle.kinds.specs.declared.of_pairs.PairKind.{PairKind}
use Rattle.std.specs.Prelude.{Some}
use Rattle.kinds.specs.Pairs.{pair_of}
use Rattle.answers.specs.Answers.{refuses}
use Rattle.answers.proofs.Refusals.{refuses-zero, refuses-other}
use Rattle.matching.specs.Amounts.{taken_at}
use Rattle.payers.specs.declared.members.Member.{Member}
use Rattle.payers.specs.Members.{nobody, payer_on, owed_on}
use Rattle.payers.specs.Payers.{member_after}
use Rattle.dues.specs.Posting.{payer_at, board_told, members_as, board_after}
use Rattle.board.specs.Each.{requests, taken_of, MemberSays}
use Rattle.board.proofs.Repeats.{payers-differ}
use Rattle.payers.proofs.Named.{named-if, named-not}
use Rattle.payers.proofs.After.{state-running, state-paused, after-named, after-unnamed, members-length, members-at}
use Rattle.board.proofs.Covered.{taken-most}
use Rattle.board.proofs.Stages.{posted, board-posted, posted-kind, nothing-changed}

module _ (kind : ℕ) (q r : List ℕ) (board : List Member) (dates : List ℕ) where
  -- as many members as before, accepted or not
  pub same-many : length (board_after kind q r board dates) ≡ length board
  unfolding members_as
  same-many = ⊎_elim bad good (either (refuses (board_told kind q r board dates)))
    where
      bad : refuses (board_told kind q r board dates) ≡ true → length (board_after kind q r board dates) ≡ length board
      bad t = ap length (nothing-changed kind q r board dates (refuses-other _ t)).0

      good : refuses (board_told kind q r board dates) ≡ false → length (board_after kind q r board dates) ≡ length board
      good f =
          let e = refuses-zero _ f in
          let x = posted-kind kind q r board dates e in
          let p = x.0 in
          ap length (board-posted kind q r board dates p x.1 e) ∙ members-length (payer_at p q) (taken_at p q r) (requests p q) board

  module _ (p : PairKind) (is : pair_of kind ≡ Some p) (good : (board_told kind q r board dates).number ≡ 0) where
    -- *The sum taken from a payer never exceeds what it owes*
    pub never-over : (k : ℕ) → k < length board → taken_of p q r (payer_on board k) ≤ owed_on board k
    never-over =
        let x = posted kind q r board dates p is good in
        taken-most (payer_at p q) (taken_at p q r) (requests p q) board (payers-differ board x.payers) x.dues

    -- *Each member*: one that a request names is settled, any other is as it was
    pub each_member : (k : ℕ) → k < length board → MemberSays p q r (get_or board k nobody) (get_or (board_after kind q r board dates) k nobody)
    unfolding members_as owed_on payer_on
    each_member k h = rw after (record {
      named = λ i l e. rw (after-named (payer_at p q) (taken_at p q r) (requests p q) m (named-if (payer_at p q) (taken_at p q r) (requests p q) m.payer i l e)) (record {
        payer = refl;
        owed = omega (arith, never-over k h);
        running = state-running (m.owed - taken_of p q r m.payer);
        paused = state-paused (m.owed - taken_of p q r m.payer);
      });
      unnamed = λ none. after-unnamed (payer_at p q) (taken_at p q r) (requests p q) m (named-not (payer_at p q) (taken_at p q r) (requests p q) m.payer none);
    })
      where
        m : Member
        m = get_or board k nobody

        after : get_or (board_after kind q r board dates) k nobody ≡ member_after (payer_at p q) (taken_at p q r) (requests p q) m
        after =
            ap (λ (x : List Member). get_or x k nobody) (board-posted kind q r board dates p is good) ∙
            members-at (payer_at p q) (taken_at p q r) (requests p q) board k h
