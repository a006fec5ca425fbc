-- What was posted is never posted again, whatever is posted in between: neither the same pair nor any other of its sort whose day is not later.
-- Assumes nothing.
use Prim.Native.Nat.{ℕ, ◌≤◌}
use mathlib.Core.Bool.{true, false}
use mathlib.Core.List.{List, [], ◌∷◌}
use mathlib.Core.Path.{◌≡◌, sym, ◌∙◌, ap}
use mathlib.Core.Logic.{⊎_elim}
use native.Mathlib.Omega.{arith}
use borrow.Author.Tests.{eqb-true, eqb-false}
use lib.Dec.{eqb}
use lib.ListN.{length}
use Rattle.laws.proofs.Bools.{either, clash}
use Rattle.kinds.specs.declared.of_pairs.PairKind.{PairKind}
use Rattle.std.specs.Prelude.{Some}
use Rattle.kinds.specs.declared.of_pairs.Family.TheVariants.{Debit}
use Rattle.kinds.specs.Pairs.{pair_of}
use Rattle.answers.specs.Answers.{refused_at, refuses}
use Rattle.answers.proofs.Refusals.{number_of, refuses-zero, refuses-other}
use Rattle.matching.specs.Amounts.{taken_at}
use Rattle.pair.specs.Pairing.{pair_by}
use Rattle.payers.specs.declared.members.Member.{Member}
use Rattle.payers.specs.Members.{repeat_number}
use Rattle.payers.proofs.After.{members-repeat}
use Rattle.dues.specs.Posting.{payer_at, date_start, last_posted, later, day_of, board_told, members_as, board_after, dates_after}
use Rattle.board.specs.Each.{requests}
use Rattle.board.specs.First.{Later}
use Rattle.board.specs.Calls.{Call, Lent, told_to, after_call, after_calls, NotAgain}
use Rattle.board.proofs.Stages.{told-pair, told-date, posted, posted-kind, board-posted, nothing-changed}
use Rattle.board.proofs.Days.{later-self, later-if, later-is, later_trans, day-most, own-date-moves, other-date-stays, dates-length}

-- a day that is not later is refused
pub early-refused :
    (kind : ℕ) (q r : List ℕ) (board : List Member) (dates : List ℕ) (p : PairKind) → pair_of kind ≡ Some p → p.family ≡ Debit → repeat_number board ≡ 0 →
    later (day_of p q) (last_posted p dates) ≡ false → (board_told kind q r board dates).number ≡ 0 → ⊥
early-refused kind q r board dates p is debit payers early z = ⊎_elim bad good (either (refuses (pair_by p q r true)))
  where
    bad : refuses (pair_by p q r true) ≡ true → ⊥
    bad t = let ne = refuses-other (pair_by p q r true) t in ne (number_of (sym (told-pair kind q r board dates p is payers debit ne)) ∙ z)

    good : refuses (pair_by p q r true) ≡ false → ⊥
    good f =
        let y : ◌≡◌ {A = ℕ} 40 0 = number_of (sym (told-date kind q r board dates p is payers debit (refuses-zero (pair_by p q r true) f) early)) ∙ z in
        omega arith

-- payers differ, and a day is not later than the last of a sort
pub record Past (p : PairKind) (day : List ℕ) (l : Lent) : Type 0 where
  pub payers : repeat_number l.members ≡ 0
  pub twelve : length l.dates ≡ 12
  pub past : later day (last_posted p l.dates) ≡ false

-- a posting of such a day is refused
pub past-refused : (p : PairKind) (c : Call) (l : Lent) → pair_of c.kind ≡ Some p → p.family ≡ Debit → Past p (day_of p c.request) l → NotAgain p c l
unfolding told_to after_call
past-refused p c l is debit x =
    let refusal = early-refused c.kind c.request c.result l.members l.dates p is debit x.payers x.past in
    let n = nothing-changed c.kind c.request c.result l.members l.dates refusal in
    record {
      refusal = refusal;
      date = λ pair. told-date c.kind c.request c.result l.members l.dates p is x.payers debit pair x.past;
      stays = λ i. record { members = n.0 i; dates = n.1 i };
    }

module _ (p : PairKind) (day : List ℕ) (short : length day ≤ 6) where
  -- no posting changes that
  past-call : (c : Call) (l : Lent) → Past p day l → Past p day (after_call c l)
  unfolding after_call members_as last_posted
  past-call c l x = ⊎_elim bad good (either (refuses (board_told c.kind c.request c.result l.members l.dates)))
    where
      board : List Member
      board = l.members

      dates : List ℕ
      dates = l.dates

      bad : refuses (board_told c.kind c.request c.result board dates) ≡ true → Past p day (after_call c l)
      bad t =
          let n = nothing-changed c.kind c.request c.result board dates (refuses-other _ t) in
          record { payers = ap repeat_number n.0 ∙ x.payers; twelve = ap length n.1 ∙ x.twelve; past = ap (λ (d : List ℕ). later day (last_posted p d)) n.1 ∙ x.past }

      good : refuses (board_told c.kind c.request c.result board dates) ≡ false → Past p day (after_call c l)
      good f = record { payers = payers; twelve = dates-length c.kind c.request c.result board dates x.twelve; past = past }
        where
          e : (board_told c.kind c.request c.result board dates).number ≡ 0
          e = refuses-zero _ f

          o : PairKind
          o = (posted-kind c.kind c.request c.result board dates e).0

          is : pair_of c.kind ≡ Some o
          is = (posted-kind c.kind c.request c.result board dates e).1

          payers : repeat_number (board_after c.kind c.request c.result board dates) ≡ 0
          payers =
              rw (board-posted c.kind c.request c.result board dates o is e)
              (members-repeat (payer_at o c.request) (taken_at o c.request c.result) (requests o c.request) board ∙ x.payers)

          -- of its sort the date moves on to a later one, of the other it stays
          same : date_start p ≡ date_start o → later day (last_posted p (dates_after c.kind c.request c.result board dates)) ≡ false
          same s = ⊎_elim (λ t. absurd (clash (passed t) x.past)) (λ g. g) (either (later day (last_posted p (dates_after c.kind c.request c.result board dates))))
            where
              moved : last_posted p (dates_after c.kind c.request c.result board dates) ≡ day_of o c.request
              moved = rw s (own-date-moves c.kind c.request c.result board dates x.twelve o is e)

              passed : later day (last_posted p (dates_after c.kind c.request c.result board dates)) ≡ true → later day (last_posted p dates) ≡ true
              passed t =
                  let u = later-is day (day_of o c.request) short (ap (later day) (sym moved) ∙ t) in
                  let v = later-is (day_of o c.request) (last_posted o dates) (day-most o c.request) (posted c.kind c.request c.result board dates o is e).day in
                  rw s (later-if day (last_posted o dates) (later_trans day (day_of o c.request) (last_posted o dates) u v))

          past : later day (last_posted p (dates_after c.kind c.request c.result board dates)) ≡ false
          past =
              ⊎_elim (λ t. same (eqb-true (date_start p) (date_start o) t))
              (λ g.
              ap (later day) (other-date-stays c.kind c.request c.result board dates x.twelve o is p (eqb-false (date_start p) (date_start o) g)) ∙ x.past)
              (either (eqb (date_start p) (date_start o)))

  pub past-calls : (calls : List Call) (l : Lent) → Past p day l → Past p day (after_calls calls l)
  unfolding after_calls
  past-calls [] l x = x
  past-calls (c ∷ cs) l x = past-calls cs (after_call c l) (past-call c l x)

-- right after an accepted posting every day is past that is not later than its own
posted-past :
    (p : PairKind) (day : List ℕ) (c : Call) (l : Lent) → pair_of c.kind ≡ Some p → (told_to c l).number ≡ 0 → length l.dates ≡ 12 →
    later day (day_of p c.request) ≡ false → Past p day (after_call c l)
unfolding told_to after_call members_as
posted-past p day c l is good twelve early = record {
  payers = rw (board-posted c.kind c.request c.result l.members l.dates p is good)
      (members-repeat (payer_at p c.request) (taken_at p c.request c.result) (requests p c.request) l.members ∙
      (posted c.kind c.request c.result l.members l.dates p is good).payers);
  twelve = dates-length c.kind c.request c.result l.members l.dates twelve;
  past = rw (own-date-moves c.kind c.request c.result l.members l.dates twelve p is good) early;
}

-- *Never again*: after an accepted posting, and any postings behind it, no pair of its sort whose day is not later
pub never-again :
    (p : PairKind) (c d : Call) (l : Lent) → pair_of c.kind ≡ Some p → pair_of d.kind ≡ Some p → (told_to c l).number ≡ 0 → length l.dates ≡ 12 →
    (Later (day_of p d.request) (day_of p c.request) → ⊥) → (calls : List Call) → NotAgain p d (after_calls calls (after_call c l))
unfolding told_to
never-again p c d l is also good twelve not calls =
    past-refused p d (after_calls calls (after_call c l)) also (posted c.kind c.request c.result l.members l.dates p is good).debit
    (past-calls p (day_of p d.request) (day-most p d.request) calls (after_call c l) (posted-past p (day_of p d.request) c l is good twelve early))
  where
    early : later (day_of p d.request) (day_of p c.request) ≡ false
    early = ⊎_elim (λ t. absurd (not (later-is (day_of p d.request) (day_of p c.request) (day-most p d.request) t))) (λ f. f) (either (later (day_of p d.request) (day_of p c.request)))

-- *Once*: the same pair once more, whatever was posted in between, is told 40, and nothing changes
pub once :
    (c : Call) (l : Lent) → (told_to c l).number ≡ 0 → length l.dates ≡ 12 → (calls : List Call) →
    (told_to c (after_calls calls (after_call c l)) ≡ refused_at 40 0 5 0x30303030) × (after_call c (after_calls calls (after_call c l)) ≡ after_calls calls (after_call c l))
unfolding told_to
once c l good twelve calls =
    let x = posted-kind c.kind c.request c.result l.members l.dates good in
    let p = x.0 in
    let s = never-again p c c l x.1 x.1 good twelve (λ t. clash (later-if (day_of p c.request) (day_of p c.request) t) (later-self (day_of p c.request))) calls in
    (s.date (posted c.kind c.request c.result l.members l.dates p x.1 good).pair, s.stays)
