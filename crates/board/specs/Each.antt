-- What an accepted posting leaves of a member.
use Rattle.std.specs.Prelude.{ℕ, ◌+◌, ◌<◌, List, ◌≡◌, ◌↔◌}
use Rattle.kinds.specs.declared.of_pairs.PairKind.{PairKind}
use Rattle.kinds.specs.Pairs.{request_kind}
use Rattle.records.specs.Records.{data_of}
use Rattle.matching.specs.Amounts.{taken_at}
use Rattle.payers.specs.declared.members.Member.{Member}
use Rattle.payers.specs.Payers.{taken_from}
use Rattle.dues.specs.Posting.{payer_at}

-- how many requests there are, and what was taken of all those that name a payer
abbrev pub requests : PairKind → List ℕ → ℕ
requests p q = data_of (request_kind p) q

abbrev pub taken_of : PairKind → List ℕ → List ℕ → List ℕ → ℕ
taken_of p q r payer = taken_from (payer_at p q) (taken_at p q r) (requests p q) payer

-- a member that some request names
pub record Settled (p : PairKind) (q r : List ℕ) (before after : Member) : Type 0 where
  pub payer : after.payer ≡ before.payer
  -- what was taken is no longer owed
  pub owed : after.owed + taken_of p q r before.payer ≡ before.owed
  -- running where nothing is owed, else paused
  pub running : (after.state ≡ 1) ↔ (after.owed ≡ 0)
  pub paused : (after.state ≡ 0) ↔ (after.owed ≡ 0 → ⊥)

-- any member
pub record MemberSays (p : PairKind) (q r : List ℕ) (before after : Member) : Type 0 where
  pub named : (i : ℕ) → i < requests p q → payer_at p q i ≡ before.payer → Settled p q r before after
  pub unnamed : ((i : ℕ) → i < requests p q → payer_at p q i ≡ before.payer → ⊥) → after ≡ before
