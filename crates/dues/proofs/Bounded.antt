-- What is known before a member is looked at, for any number, any bytes and any dates: how many, how long and how much.
-- Assumes nothing.
use Prim.Native.Nat.{ℕ, ◌≤◌, ◌<◌, ◌^◌, zero-le}
use mathlib.Core.Bool.{true}
use mathlib.Core.List.{List, []}
use mathlib.Core.Path.{◌≡◌, ◌∙◌}
use mathlib.Core.Logic.{⊎_elim}
use native.Mathlib.Nat.{not-suc-le-zero}
use native.Mathlib.Omega.{arith}
use lib.ListN.{length, drop, length-append, length-drop}
use Rattle.laws.specs.Tabulate.{tabulate}
use Rattle.laws.proofs.Bools.{either}
use Rattle.laws.proofs.Tabs.{tab-length, fill-at}
use Rattle.kinds.specs.Kinds.{limit}
use Rattle.kinds.specs.declared.of_pairs.PairKind.{PairKind}
use Rattle.std.specs.Prelude.{Some}
use Rattle.kinds.specs.Pairs.{request_kind, pair_of}
use Rattle.answers.specs.Answers.{refuses}
use Rattle.answers.proofs.Refusals.{refuses-zero}
use Rattle.records.specs.Records.{data_of}
use Rattle.keys.specs.Stands.{Inside}
use Rattle.matching.specs.Amounts.{taken_at}
use Rattle.dues.specs.Posting.{payer_at, ready_told}
use Rattle.payers.specs.Turns.{payer_spacing, dues_key, listed}
use Rattle.dues.specs.Steps.{ready_count, ready_list}
use Rattle.dues.proofs.Readied.{ready-known, ready-accepts, count_none, list-kept, count-is, list-is}
use Rattle.dues.proofs.Requested.{requests-few, payers-inside, payer-key, taken-small}

module _ (kind : ℕ) (q r dates : List ℕ) where
  -- a refusal, or an accepted pair of a kind that the number names
  module _ (X : Type 0) (none : refuses (ready_told kind q r dates) ≡ true → X)
      (one : (p : PairKind) → pair_of kind ≡ Some p → (ready_told kind q r dates).number ≡ 0 → X) where
    by-case : X
    by-case = ⊎_elim none (λ f. let z = refuses-zero (ready_told kind q r dates) f in let k = ready-known kind q r dates z in one k.p k.named z) (either (refuses (ready_told kind q r dates)))

  -- the requests are within the limit
  pub ready-few : ready_count kind q r dates ≤ limit
  ready-few =
      by-case (ready_count kind q r dates ≤ limit) (λ t. rw (count_none kind q r dates t) zero-le)
      (λ p e z. rw (count-is kind q r dates p e z) (requests-few p q r dates (ready-accepts kind q r dates p e z)))

  pub ready-word : ready_count kind q r dates ≤ 65535
  ready-word = omega (arith, ready-few)

  -- a lent list of the limit is as long as it was
  pub list_length : (old : List ℕ) → limit ≤ length old → length (ready_list kind q r dates old) ≡ length old
  list_length old long =
      by-case (length (ready_list kind q r dates old) ≡ length old) (λ t. rw (list-kept kind q r dates t old)) filled
    where
      filled : (p : PairKind) → pair_of kind ≡ Some p → (ready_told kind q r dates).number ≡ 0 → length (ready_list kind q r dates old) ≡ length old
      filled p e z =
          let n = data_of (request_kind p) q in
          rw (list-is kind q r dates p e z old)
          (length-append (tabulate (taken_at p q r) n) (drop n old) ∙
          rw (tab-length (taken_at p q r) n, length-drop {A = ℕ} n old)
          (omega (arith, long, requests-few p q r dates (ready-accepts kind q r dates p e z))))

  -- each payer lies within the request
  pub ready-inside : Inside [] payer_spacing q (ready_count kind q r dates)
  ready-inside =
      by-case (Inside [] payer_spacing q (ready_count kind q r dates)) (λ t. rw (count_none kind q r dates t) (λ i h. absurd (not-suc-le-zero h)))
      (λ p e z. rw (count-is kind q r dates p e z) (payers-inside p q r dates (ready-accepts kind q r dates p e z)))

  -- the requests by the pair kind: their payers, and what was taken of each
  module _ (p : PairKind) (named : pair_of kind ≡ Some p) (good : (ready_told kind q r dates).number ≡ 0) where
    pub ready-key : (i : ℕ) → i < ready_count kind q r dates → dues_key q i ≡ payer_at p q i
    ready-key i h = payer-key p q r dates (ready-accepts kind q r dates p named good) i (rw (count-is kind q r dates p named good) at h)

    pub ready-won : (old : List ℕ) (i : ℕ) → i < ready_count kind q r dates → listed (ready_list kind q r dates old) i ≡ taken_at p q r i
    unfolding listed
    ready-won old i h =
        rw (list-is kind q r dates p named good old)
        (fill-at (taken_at p q r) old (data_of (request_kind p) q) i (rw (count-is kind q r dates p named good) at h))

  -- no more than an amount of thirteen digits is taken of one
  pub ready-small : (old : List ℕ) (i : ℕ) → i < ready_count kind q r dates → listed (ready_list kind q r dates old) i ≤ 10 ^ 13
  ready-small old i h =
      by-case (listed (ready_list kind q r dates old) i ≤ 10 ^ 13) (λ t. absurd (not-suc-le-zero (rw (count_none kind q r dates t) at h)))
      (λ p e z. rw (ready-won p e z old i h) (taken-small p q r dates (ready-accepts kind q r dates p e z) i))
