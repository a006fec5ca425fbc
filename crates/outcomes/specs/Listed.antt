-- What each outcome says: the lists' own amounts, the code of the request's result, and who set it.
use Rattle.std.specs.Prelude.{ℕ, ◌-◌, ◌≤◌, true, List, [], ◌∷◌, ◌≡◌, get_or}
use Rattle.answers.specs.Answers.{accepted}
use Rattle.records.specs.Records.{data_of}
use Rattle.tables.specs.Makers.{maker_of, maker_number}
use Rattle.kinds.specs.declared.of_pairs.PairKind.{PairKind}
use Rattle.kinds.specs.Pairs.{request_kind}
use Rattle.agreement.specs.Marks.{mark_in, code_in}
use Rattle.agreement.specs.Same.{result_at}
use Rattle.matching.specs.Amounts.{asked_at, taken_at, not_taken_at}
use Rattle.pair.specs.Pairing.{pair_by}
use Rattle.pair.specs.Assigned.{Matches}
use Rattle.outcomes.specs.declared.cases.Told.{Told}
use Rattle.outcomes.specs.Outcomes.{numbers_of}

-- no result has the key of request i + 1
abbrev pub NoResult : PairKind → List ℕ → List ℕ → ℕ → Type 0
NoResult p q r i = (j : ℕ) → Matches p q r i j → ⊥

-- the five numbers of request i + 1
pub data OutcomeSays (p : PairKind) (q r : List ℕ) (i : ℕ) : List ℕ → Type 0 where
  -- 1: it has no result, a blank code and no maker
  whole : NoResult p q r i → OutcomeSays p q r i (1 ∷ taken_at p q r i ∷ not_taken_at p q r i ∷ 0x20202020 ∷ 0 ∷ [])
  -- 2: its result is j + 1, marked "P"
  part : (j : ℕ) → Matches p q r i j → mark_in p (result_at p r j) ≡ 0x50 →
      OutcomeSays p q r i (2 ∷ taken_at p q r i ∷ not_taken_at p q r i ∷ code_in p (result_at p r j) ∷ maker_number (maker_of (code_in p (result_at p r j))) ∷ [])
  -- 3: its result is j + 1, marked "N"
  refused : (j : ℕ) → Matches p q r i j → mark_in p (result_at p r j) ≡ 0x4E →
      OutcomeSays p q r i (3 ∷ taken_at p q r i ∷ not_taken_at p q r i ∷ code_in p (result_at p r j) ∷ maker_number (maker_of (code_in p (result_at p r j))) ∷ [])

-- an outcome agrees with the two lists at place i: it is accepted, and its second and third number stand there
pub record Listed (t : Told) (taken notTaken : List ℕ) (i : ℕ) : Type 0 where
  pub answer : t.answer ≡ accepted
  pub took : get_or (numbers_of t.outcome) 1 0 ≡ get_or taken i 0
  pub left : get_or (numbers_of t.outcome) 2 0 ≡ get_or notTaken i 0

-- what is known of request `rec` where its outcome is whole: the pair is accepted, and it has no result
pub record Paid (p : PairKind) (q r : List ℕ) (rec taken : ℕ) : Type 0 where
  pub pair : (pair_by p q r true).number ≡ 0
  pub first : 1 ≤ rec
  pub last : rec ≤ data_of (request_kind p) q
  pub none : NoResult p q r (rec - 1)
  pub all : taken ≡ asked_at p q (rec - 1)
