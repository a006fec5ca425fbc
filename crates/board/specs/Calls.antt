-- Posting after posting on one board.
use Rattle.std.specs.Prelude.{ℕ, List, [], ◌∷◌, ◌≡◌, true}
use Rattle.kinds.specs.declared.of_pairs.PairKind.{PairKind}
use Rattle.answers.specs.declared.told.Answer.{Answer}
use Rattle.answers.specs.Answers.{refused_at}
use Rattle.pair.specs.Pairing.{pair_by}
use Rattle.payers.specs.declared.members.Member.{Member}
use Rattle.dues.specs.Posting.{board_told, board_after, dates_after}

-- a posting: the number of its pair kind, a request and a result
pub record Call : Type 0 where
  pub kind : ℕ
  pub request : List ℕ
  pub result : List ℕ

-- what is lent: the members, and the dates last posted
pub record Lent : Type 0 where
  pub members : List Member
  pub dates : List ℕ

-- what it is told, and what is lent after it
unfoldable pub told_to : Call → Lent → Answer
told_to c l = board_told c.kind c.request c.result l.members l.dates

unfoldable pub after_call : Call → Lent → Lent
after_call c l = record {
  members = board_after c.kind c.request c.result l.members l.dates;
  dates = dates_after c.kind c.request c.result l.members l.dates;
}

-- the same of postings one after the other
unfoldable pub after_calls : List Call → Lent → Lent
after_calls [] l = l
after_calls (c ∷ cs) l = after_calls cs (after_call c l)

-- a posting that is refused, with 40 where its pair is good, and changes nothing
pub record NotAgain (p : PairKind) (c : Call) (l : Lent) : Type 0 where
  pub refusal : (told_to c l).number ≡ 0 → ⊥
  pub date : (pair_by p c.request c.result true).number ≡ 0 → told_to c l ≡ refused_at 40 0 5 0x30303030
  pub stays : after_call c l ≡ l
