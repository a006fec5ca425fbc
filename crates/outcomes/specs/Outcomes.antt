-- One request's outcome: whole, part with amounts, or refused with its code; and who set the code.
use Rattle.std.specs.Prelude.{ℕ, ◌+◌, ◌-◌, Bool, true, cond, ◌&&◌, List, [], ◌∷◌, leb, ltb, eqb, Option, Some, None, Result, Ok, Err}
use Rattle.answers.specs.declared.told.Answer.{Answer}
use Rattle.answers.specs.declared.of_two.OfTwo.{OfTwo}
use Rattle.answers.specs.Answers.{accepted, refused, refuses}
use Rattle.answers.specs.OfTwo.{told_of_two}
use Rattle.records.specs.Records.{record_of, data_of}
use Rattle.tables.specs.declared.makers.Maker.{Maker}
use Rattle.tables.specs.declared.makers.Maker.TheVariants as makers
use Rattle.tables.specs.Makers.{maker_of, maker_number}
use Rattle.kinds.specs.declared.of_pairs.PairKind.{PairKind}
use Rattle.kinds.specs.Pairs.{request_kind, result_kind, pair_of}
use Rattle.agreement.specs.Marks.{mark_in, code_in}
use Rattle.matching.specs.Matching.{result_for}
use Rattle.matching.specs.Amounts.{asked_at, taken_at, not_taken_at}
use Rattle.pair.specs.Pairing.{pair_by}
use Rattle.outcomes.specs.declared.cases.Outcome.{Outcome}
use Rattle.outcomes.specs.declared.cases.Outcome.TheVariants as cases
use Rattle.outcomes.specs.declared.cases.Outcome.TheVariants.{Whole, Part, Refused}
use Rattle.outcomes.specs.declared.cases.Told.{Told}

-- who set the code; none where there is no code
abbrev pub maker_in : Outcome → Maker
maker_in cases.None = makers.None
maker_in (Whole taken) = makers.None
maker_in (Part taken notTaken code maker) = maker
maker_in (Refused notTaken code maker) = maker

-- the paper's numbers of each case: the case, taken, not taken, the result's code, four spaces where there is none, and its maker
abbrev pub numbers_of : Outcome → List ℕ
numbers_of cases.None = 0 ∷ 0 ∷ 0 ∷ 0x20202020 ∷ 0 ∷ []
numbers_of (Whole taken) = 1 ∷ taken ∷ 0 ∷ 0x20202020 ∷ 0 ∷ []
numbers_of (Part taken notTaken code maker) = 2 ∷ taken ∷ notTaken ∷ code ∷ maker_number maker ∷ []
numbers_of (Refused notTaken code maker) = 3 ∷ 0 ∷ notTaken ∷ code ∷ maker_number maker ∷ []

abbrev pub told : Answer → Outcome → Told
told a o = record { answer = a; outcome = o }

-- what a result says that is an outcome: none where it is a refusal
abbrev pub told_of : Result Outcome OfTwo → Told
told_of (Ok o) = told accepted o
told_of (Err r) = told (told_of_two r) cases.None

-- "P" is a part, else the whole was refused; the code says who did
unfoldable pub failed_by : PairKind → List ℕ → ℕ → ℕ → Outcome
failed_by p rec taken notTaken =
    cond (eqb (mark_in p rec) 0x50) (Part taken notTaken (code_in p rec) (maker_of (code_in p rec))) (Refused notTaken (code_in p rec) (maker_of (code_in p rec)))

-- the outcome of request i + 1
unfoldable pub outcome_at : PairKind → List ℕ → List ℕ → ℕ → Outcome
outcome_at p q r i =
    cond (ltb (result_for p q r i) (data_of (result_kind p) r))
    (failed_by p (record_of (result_kind p) r (result_for p q r i + 1)) (taken_at p q r i) (not_taken_at p q r i))
    (Whole (asked_at p q i))

-- 15: not one of the requests 1 to n, tested last
unfoldable pub asks_for : ℕ → ℕ → Bool
asks_for n rec = leb 1 rec && leb rec n

unfoldable pub outcome_as : PairKind → List ℕ → List ℕ → ℕ → Told
outcome_as p q r rec =
    cond (refuses (pair_by p q r true)) (told (pair_by p q r true) cases.None)
    (cond (asks_for (data_of (request_kind p) q) rec) (told accepted (outcome_at p q r (rec - 1))) (told (refused 15) cases.None))

abbrev pub outcome_named : Option PairKind → List ℕ → List ℕ → ℕ → Told
outcome_named (Some p) q r rec = outcome_as p q r rec
outcome_named None q r rec = told (refused 1) cases.None

unfoldable pub outcome_told : ℕ → List ℕ → List ℕ → ℕ → Told
outcome_told kind q r rec = outcome_named (pair_of kind) q r rec
