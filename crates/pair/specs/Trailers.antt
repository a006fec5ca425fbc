-- What is held against the two trailers: what the results add up to, request by request, and what was asked in all.
use Rattle.std.specs.Prelude.{ℕ, ◌+◌, cond, List, ◌≡◌, eqb, ltb}
use Rattle.laws.specs.Sum.{sum}
use Rattle.numbers.specs.Numbers.{value_of}
use Rattle.kinds.specs.declared.of_files.Kind.{Kind}
use Rattle.kinds.specs.declared.of_files.Role.TheVariants.{Trailer}
use Rattle.tables.specs.declared.totals.Quantity.{Quantity}
use Rattle.tables.specs.Tables.{rows_of}
use Rattle.tables.specs.Places.{place_in}
use Rattle.layout.specs.Items.{bytes_at, application_of}
use Rattle.records.specs.Records.{data_of, trailer_of}
use Rattle.records.specs.Quantities.{worth_at}
use Rattle.kinds.specs.declared.of_pairs.PairKind.{PairKind}
use Rattle.kinds.specs.declared.of_pairs.Family.{Family}
use Rattle.kinds.specs.declared.of_pairs.Family.TheVariants.{Enrolment, Debit}
use Rattle.kinds.specs.Pairs.{request_kind, result_kind}
use Rattle.matching.specs.Matching.{result_for}
use Rattle.matching.specs.Amounts.{taken_at, not_taken_at}
use Rattle.agreement.specs.Same.{request_at}

-- the number that an item of the trailer says; the item's place is had from the trailer's rows
unfoldable pub trailer_says : Kind → ℕ → List ℕ → ℕ
trailer_says k item s = value_of (bytes_at (place_in (rows_of k Trailer) item) (trailer_of k s))

-- what the result of request i + 1 adds to a quantity; nothing where it has no result
unfoldable pub failed_as : PairKind → List ℕ → List ℕ → Quantity → ℕ → ℕ
failed_as p q r quantity i =
    cond (ltb (result_for p q r i) (data_of (result_kind p) r)) (worth_at (result_kind p) r quantity (result_for p q r i)) 0

-- what the request's trailer says is asked in all: the count, item 5; in debit the sum, item 7
abbrev pub asked_in : Family → Kind → List ℕ → ℕ
asked_in Enrolment k q = trailer_says k 5 q
asked_in Debit k q = trailer_says k 7 q

abbrev pub asked_in_all : PairKind → List ℕ → ℕ
asked_in_all p q = asked_in p.family (request_kind p) q

-- what the result's trailer says was not taken in all: the count, item 5; in debit the sums, items 7 and 9
abbrev pub failed_in : Family → Kind → List ℕ → ℕ
failed_in Enrolment k r = trailer_says k 5 r
failed_in Debit k r = trailer_says k 7 r + trailer_says k 9 r

abbrev pub failed_in_all : PairKind → List ℕ → ℕ
failed_in_all p r = failed_in p.family (result_kind p) r

-- a number of each enrolment request, counted where its application kind, item 5, is b
unfoldable pub of_kind : PairKind → ℕ → List ℕ → (ℕ → ℕ) → ℕ → ℕ
of_kind p b q f i = cond (eqb (application_of (request_at p q i)) b) (f i) 0

-- the enrolment requests of application kind b against an item of both trailers
pub record KindTotals (p : PairKind) (q r : List ℕ) (b item : ℕ) : Type 0 where
  -- those not taken are what the result's trailer says
  pub failed : sum (of_kind p b q (not_taken_at p q r)) (data_of (request_kind p) q) ≡ trailer_says (result_kind p) item r
  -- those taken and those not taken are what the request's says
  pub asked :
      sum (of_kind p b q (taken_at p q r)) (data_of (request_kind p) q) + sum (of_kind p b q (not_taken_at p q r)) (data_of (request_kind p) q) ≡
      trailer_says (request_kind p) item q
