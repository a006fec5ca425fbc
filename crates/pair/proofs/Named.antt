-- The same by number: a pair kind is named by its request's kind.
-- Assumes nothing.
use Prim.Native.Nat.{ℕ, ◌≤◌}
use mathlib.Core.Bool.{true}
use mathlib.Core.List.{List}
use mathlib.Core.Path.{◌≡◌, refl}
use mathlib.Core.Logic.{◌↔◌}
use native.Mathlib.Omega.{arith}
use Rattle.answers.specs.Answers.{accepted, refused}
use Rattle.records.specs.Records.{data_of}
use Rattle.reader.specs.Reading.{read_as}
use Rattle.kinds.specs.declared.of_pairs.PairKind.{PairKind}
use Rattle.std.specs.Prelude.{Option, Some, None}
use Rattle.kinds.specs.Pairs.{request_kind, result_kind, pair_of}
use Rattle.agreement.specs.Same.{HeadersAgree}
use Rattle.matching.specs.Amounts.{taken_at, not_taken_at}
use Rattle.pair.specs.Pairing.{pair_by, lists_fit, pair_as, list_after, pair_named, pair_told, taken_after, not_taken_after}
use Rattle.pair.specs.Assigned.{Assignment}
use Rattle.pair.specs.First.{PairSays}
use Rattle.pair.proofs.First.{lent_says}
use Rattle.pair.proofs.Matched.{lent-pair}
use Rattle.pair.proofs.Exact.{pair-exact}

module _ (kind : ℕ) (q r : List ℕ) where
  -- a number that names no pair kind
  pub pair-unknown : (taken notTaken : ℕ) → pair_of kind ≡ None → pair_told kind q r taken notTaken ≡ refused 1
  unfolding pair_told
  pair-unknown taken notTaken e = rw e

  -- a number that names one
  module _ (p : PairKind) (named : pair_of kind ≡ Some p) where
    pub pair-named : (taken notTaken : ℕ) → pair_told kind q r taken notTaken ≡ pair_as p q r taken notTaken
    unfolding pair_told
    pair-named taken notTaken = rw named

    module _ (taken notTaken : ℕ) where
      pub taken-named :
          (l : List ℕ) → taken_after kind q r taken notTaken l ≡ list_after (pair_as p q r taken notTaken) (taken_at p q r) (data_of (request_kind p) q) l
      unfolding taken_after
      taken-named l = rw named

      pub not-taken-named :
          (l : List ℕ) → not_taken_after kind q r taken notTaken l ≡ list_after (pair_as p q r taken notTaken) (not_taken_at p q r) (data_of (request_kind p) q) l
      unfolding not_taken_after
      not-taken-named l = rw named

      -- *First refusal*
      pub says-named : PairSays p q r (lists_fit (data_of (request_kind p) q) taken notTaken) (pair_told kind q r taken notTaken)
      says-named = rw (pair-named taken notTaken) (lent_says p q r taken notTaken)

      -- *Exact pairing*
      pub exact-named :
          read_as (request_kind p) q ≡ accepted → read_as (result_kind p) r ≡ accepted → HeadersAgree p q r →
          data_of (request_kind p) q ≤ taken → data_of (request_kind p) q ≤ notTaken →
          (pair_told kind q r taken notTaken ≡ accepted) ↔ Assignment p q r
      exact-named eq er headers a b = rw (pair-named taken notTaken) (pair-exact p q r eq er headers taken notTaken a b)

  -- what is accepted under a number is an accepted pair of the kind that the number names
  pub record Known : Type 0 where
    pub p : PairKind
    pub named : pair_of kind ≡ Some p
    pub pair : (pair_by p q r true).number ≡ 0

  named-known : (taken notTaken : ℕ) (n : Option PairKind) → pair_of kind ≡ n → (pair_named n q r taken notTaken).number ≡ 0 → Known
  named-known taken notTaken (Some p) e z = record { p = p; named = e; pair = lent-pair p q r taken notTaken z }
  named-known taken notTaken None e z = absurd (omega arith)

  pub told-known : (taken notTaken : ℕ) → (pair_told kind q r taken notTaken).number ≡ 0 → Known
  unfolding pair_told
  told-known taken notTaken z = named-known taken notTaken (pair_of kind) refl z
