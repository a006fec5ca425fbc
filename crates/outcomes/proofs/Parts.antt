-- *A part*: the amount of a result marked "P" is what was not taken of its request, and the rest was taken.
-- Assumes nothing.
use Prim.Native.Nat.{ℕ, ◌-◌, ◌≤◌, ◌<◌}
use mathlib.Core.Bool.{Bool}
use mathlib.Core.List.{List}
use mathlib.Core.Path.{◌≡◌}
use native.Mathlib.Omega.{arith}
use borrow.Author.Tests.{lt-ltb}
use Rattle.layout.specs.Items.{amount_of, mark_of}
use Rattle.records.specs.Records.{data_of}
use Rattle.records.specs.Quantities.{worth, worth_at}
use Rattle.kinds.specs.declared.of_files.Own.{Own}
use Rattle.kinds.specs.declared.of_pairs.PairKind.{PairKind}
use Rattle.kinds.specs.declared.of_pairs.Family.TheVariants.{Debit}
use Rattle.kinds.specs.Pairs.{pair_kind, result_kind}
use Rattle.agreement.specs.Same.{request_at, result_at}
use Rattle.agreement.specs.Possible.{base_for, PossibleIn, Possible}
use Rattle.matching.specs.Amounts.{asked_at, taken_at, not_taken_by, not_taken_at}
use Rattle.pair.specs.Pairing.{pair_by}
use Rattle.pair.specs.Assigned.{Matches, Met}
use Rattle.pair.proofs.Keys.{request-is, result-is}
use Rattle.pair.proofs.Matched.{Paired, pair-known}

-- of request i + 1 of a debit, which result j + 1 answers
pub record PartTaken (p : PairKind) (q r : List ℕ) (i j : ℕ) : Type 0 where
  -- the result's amount is some, and less than was asked
  pub some : 0 < amount_of (result_at p r j)
  pub less : amount_of (result_at p r j) < amount_of (request_at p q i)
  -- it is what was not taken
  pub left : not_taken_at p q r i ≡ amount_of (result_at p r j)
  -- and what was asked less it was taken, which reaches the base of the type
  pub took : taken_at p q r i ≡ amount_of (request_at p q i) - amount_of (result_at p r j)
  pub base : base_for p.request.least (request_at p q i) ≤ taken_at p q r i

-- debits of any kind
module _ (a b : Own) where
  abbrev debit : PairKind
  debit = pair_kind Debit a b

  module _ (q r : List ℕ) (i j : ℕ) (x : Matches debit q r i j) where
    -- what was not taken is the amount of the result that has the request's key, and the rest was taken
    left_is : Paired debit q r → not_taken_at debit q r i ≡ amount_of (result_at debit r j)
    unfolding not_taken_at not_taken_by worth_at worth
    left_is p = rw (result-is debit q r p.result.keys i j x, lt-ltb j (data_of (result_kind debit) r) x.result)

    took-is : Paired debit q r → taken_at debit q r i ≡ amount_of (request_at debit q i) - amount_of (result_at debit r j)
    unfolding taken_at asked_at worth_at worth
    took-is p = rw (left_is p)

    possible-part : Paired debit q r → mark_of (result_at debit r j) ≡ 0x50 → Possible debit (request_at debit q i) (result_at debit r j) → PartTaken debit q r i j
    possible-part p m (PossibleIn.nothing n e) = absurd (omega arith)
    possible-part p m (PossibleIn.some t ne l less base) =
        record { some = l; less = less; left = left_is p; took = took-is p; base = rw (took-is p) base }

    met : Paired debit q r → Met debit q r i j
    met p = rw (request-is debit q r p.request.keys i j x) at (p.each j x.result)

    pub part-taken : (fits : Bool) → (pair_by debit q r fits).number ≡ 0 → mark_of (result_at debit r j) ≡ 0x50 → PartTaken debit q r i j
    part-taken fits e m = let p = pair-known debit q r fits e in possible-part p m (met p).possible
