-- All that is owed before a posting is all that is owed after it and all that was taken.
-- Assumes nothing.
use Prim.Native.Nat.{ℕ, ◌+◌, ◌<◌}
use mathlib.Core.List.{List}
use mathlib.Core.Path.{◌≡◌, sym, ◌∙◌}
use native.Mathlib.Omega.{arith}
use lib.ListN.{length}
use Rattle.laws.specs.Sum.{sum}
use Rattle.laws.proofs.Sums.{sum_same, sum-add, sum_one, sum-swap}
use Rattle.keys.specs.Keys.{Distinct}
use Rattle.kinds.specs.declared.of_pairs.PairKind.{PairKind}
use Rattle.std.specs.Prelude.{Some}
use Rattle.kinds.specs.Pairs.{request_kind, pair_of}
use Rattle.records.specs.Records.{data_of}
use Rattle.matching.specs.Amounts.{taken_at}
use Rattle.payers.specs.declared.members.Member.{Member}
use Rattle.payers.specs.Members.{payer_on, owed_on, owed_in_all}
use Rattle.payers.specs.Payers.{won_from, taken_from, members_after, due_number}
use Rattle.dues.specs.Posting.{payer_at, board_told, members_as, board_after}
use Rattle.board.specs.Each.{requests}
use Rattle.board.proofs.Repeats.{payers-differ}
use Rattle.keys.proofs.Found.{has_key, has_other}
use Rattle.payers.proofs.After.{members-length, members-owed}
use Rattle.board.proofs.Covered.{due-found, taken-most}
use Rattle.board.proofs.Stages.{posted, board-posted}

module _ (key : ℕ → List ℕ) (won : ℕ → ℕ) (n : ℕ) (board : List Member)
    (differ : Distinct (payer_on board) (length board)) (dues : (i : ℕ) → i < n → due_number key won n board i ≡ 0)
  where
    -- what was taken of a request is taken from one member
    pub won-once : (i : ℕ) → i < n → sum (λ k. won_from key won (payer_on board k) i) (length board) ≡ won i
    unfolding won_from
    won-once i h =
        let x = due-found key won n board differ dues i h in
        let m = x.0 in
        sum_one (λ k. won_from key won (payer_on board k) i) (length board) m x.1.on
        (λ k l ne. rw (has_other key (payer_on board k) i (λ e. ne (differ k m l x.1.on (sym e ∙ sym x.1.is))))) ∙
        rw (has_key key (payer_on board m) i (sym x.1.is))

    -- so all that is taken from members is all that was taken of requests
    pub taken-in-all : sum (λ k. taken_from key won n (payer_on board k)) (length board) ≡ sum won n
    unfolding taken_from
    taken-in-all =
        sum-swap (λ k. won_from key won (payer_on board k)) (length board) n ∙
        sum_same (λ i. sum (λ k. won_from key won (payer_on board k) i) (length board)) won n won-once

    pub owed-falls : owed_in_all board ≡ owed_in_all (members_after key won n board) + sum won n
    unfolding owed_in_all
    owed-falls =
        sum-add (owed_on (members_after key won n board)) (λ k. taken_from key won n (payer_on board k)) (owed_on board) (length board)
        (λ k h. omega (arith, members-owed key won n board k h, taken-most key won n board differ dues k h)) ∙
        rw (taken-in-all, members-length key won n board)

-- *No money is lost or made*
pub money :
    (kind : ℕ) (q r : List ℕ) (board : List Member) (dates : List ℕ) (p : PairKind) → pair_of kind ≡ Some p → (board_told kind q r board dates).number ≡ 0 →
    owed_in_all board ≡ owed_in_all (board_after kind q r board dates) + sum (taken_at p q r) (data_of (request_kind p) q)
unfolding members_as
money kind q r board dates p is good =
    let x = posted kind q r board dates p is good in
    rw (board-posted kind q r board dates p is good)
    (owed-falls (payer_at p q) (taken_at p q r) (requests p q) board (payers-differ board x.payers) x.dues)
