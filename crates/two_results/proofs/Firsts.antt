-- The first request in which the lists of two results differ.
-- Assumes nothing.
use Prim.Native.Nat.{ℕ, ◌+◌, ◌<◌}
use mathlib.Core.Bool.{true, false, and-false}
use mathlib.Core.List.{List}
use mathlib.Core.Path.{◌≡◌, refl, sym, ◌∙◌}
use native.Mathlib.Omega.{arith}
use borrow.Author.Tests.{eq-eqb, ne_eqb}
use lib.ListN.{get_or}
use mir.Syntax.{w64}
use mir.Val.{Fits}
use Rattle.laws.specs.Least.{least}
use Rattle.laws.proofs.Leasts.{least-stop, number-here, number-none}
use Rattle.kinds.specs.declared.of_files.Kind.{Kind}
use Rattle.kinds.specs.declared.of_pairs.PairKind.{PairKind}
use Rattle.kinds.specs.Pairs.{request_kind, result_kind}
use Rattle.answers.specs.Answers.{accepted}
use Rattle.records.specs.Records.{data_of}
use Rattle.reader.specs.Reading.{read_as}
use Rattle.reader.specs.Meets.{Lengths}
use Rattle.reader.proofs.Exact.{read-exact}
use Rattle.matching.specs.Matching.{results_for}
use Rattle.matching.specs.Amounts.{taken_at, not_taken_by, not_taken_at}
use Rattle.matching.proofs.Found.{left-of, result_fits}
use Rattle.pair.specs.First.{BothRead}
use Rattle.two_results.specs.Comparing.{same_at, other_at, first_other}

pub lengths-of : (k : Kind) (s : List ℕ) → read_as k s ≡ accepted → Lengths k s
lengths-of k s e = ((read-exact k s).0 e).lengths

-- the place of the result that is found for a request fits a word
pub result-at :
    (p : PairKind) (q r : List ℕ) → BothRead p q r → (list : List ℕ) → list ≡ results_for p q r →
    (i n : ℕ) → n ≡ data_of (request_kind p) q → i < n → Fits w64 (get_or list i 0)
result-at p q r b list found i n count h =
    result_fits p q r list found (omega (arith, (lengths-of (request_kind p) q b.request).most)) (omega (arith, (lengths-of (result_kind p) r b.result).most)) i (rw count at h)

-- what the result that is found for a request says was not taken
pub left_at :
    (p : PairKind) (q r : List ℕ) → read_as (request_kind p) q ≡ accepted → (list : List ℕ) → list ≡ results_for p q r →
    (i : ℕ) → i < data_of (request_kind p) q → (left : ℕ) → left ≡ not_taken_by p r (get_or list i 0) → left ≡ not_taken_at p q r i
left_at p q r e list found i h left said =
    said ∙ rw found (left-of p q r (omega (arith, (lengths-of (request_kind p) q e).most)) i h)

module _ (p : PairKind) (q r s : List ℕ) where
  -- where the same was not taken, the same was taken, too
  pub other-false : (i : ℕ) → not_taken_at p q r i ≡ not_taken_at p q s i → other_at p q r s i ≡ false
  unfolding other_at same_at taken_at
  other-false i e = rw (e, eq-eqb (taken_at p q s i) (taken_at p q s i) refl, eq-eqb (not_taken_at p q s i) (not_taken_at p q s i) refl)

  other-true : (i : ℕ) → (not_taken_at p q r i ≡ not_taken_at p q s i → ⊥) → other_at p q r s i ≡ true
  unfolding other_at same_at
  other-true i ne = rw (ne_eqb (not_taken_at p q r i) (not_taken_at p q s i) ne, and-false)

  -- a request in which they differ, after others in which they do not, is the first
  pub other-here :
      (i : ℕ) → i < data_of (request_kind p) q → least (other_at p q r s) i ≡ i → (not_taken_at p q r i ≡ not_taken_at p q s i → ⊥) → i + 1 ≡ first_other p q r s
  unfolding first_other
  other-here i h e ne = rw (least-stop (other_at p q r s) i (data_of (request_kind p) q) h e (other-true i ne)) (sym (number-here (data_of (request_kind p) q) i h))

  pub other_none : least (other_at p q r s) (data_of (request_kind p) q) ≡ data_of (request_kind p) q → 0 ≡ first_other p q r s
  unfolding first_other
  other_none e = rw e (sym (number-none (data_of (request_kind p) q)))
